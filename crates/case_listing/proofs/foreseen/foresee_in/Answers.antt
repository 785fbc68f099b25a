use Rattle.std.proofs.Common.{◌≡◌, ℕ, List, [], ◌∷◌, map, Option, Result, Ok, Err, refl, ap, sym, subst, ◌∙◌}
use Rattle.std.specs.Prelude.{IfSome}
use Rattle.intake.specs.Retiring.{brief_of_entry}
use Rattle.intake.specs.Step.{brief_of}
use Rattle.journal_layout.specs.Case.{Case, case_of}
use Rattle.journal_layout.specs.declared.entry.Entry.{Entry}
use Rattle.archive_files.specs.declared.failures.Failure.{Failure}
use Rattle.retention.specs.Rule.{IsDecision}
use Rattle.retention.specs.declared.Brief.{Brief}
use Rattle.retention.specs.declared.Decision.{Decision}
use Rattle.retention.specs.declared.Policy.{Policy}
use Rattle.script_streams.specs.declared.streams.StreamFault.{StreamFault}
use Rattle.case_listing.specs.Foreseeing.{ForeseenIn, ForeseenTold, sent_told}
use Rattle.case_listing.proofs.foreseen.foresee_in.Goals as goal

briefs_are : (es : List Entry) → map brief_of_entry es ≡ map brief_of (map case_of es)
briefs_are [] = refl
briefs_are (e ∷ es) = ap (λ bs. brief_of (case_of e) ∷ bs) (briefs_are es)

-- a decision that is told
foreseen : (cases : List Case) (policy : Policy) (before after : Option (List ℕ)) (count count' : ℕ) (r : Result (Unit {0}) Failure) (d : Decision) (sent : Result (Unit {0}) StreamFault) → IsDecision policy (map brief_of cases) d.dropped.items d.unmet
    → ForeseenTold d before after count count' sent → r ≡ sent_told sent → ForeseenIn cases policy before after count count' r
foreseen cases policy before after count count' r d (Ok u) decides told is = subst (ForeseenIn cases policy before after count count') (sym is) (d, Ok u, decides, told, refl)
foreseen cases policy before after count count' r d (Err fault) decides told is = subst (ForeseenIn cases policy before after count count') (sym is) (d, Err fault, decides, told, refl)

pub returns-in-Ok-Some : goal.returns-in-Ok-Some
returns-in-Ok-Some g c =
    let d = c.in-Ok-Some.decision in
    let told = c.print_decision.ensures in
    let decides = subst (λ (o : Option Decision). IfSome o (λ x. IsDecision c.args.policy.now (map brief_of_entry c.in-Ok.cases.now) x.dropped.items x.unmet)) c.in-Ok-Some.field-0-is c.in-Ok-Some.ensures in
    foreseen _ c.args.policy.now _ _ _ _ c.print_decision.result d told.0
    (subst (λ (bs : List Brief). IsDecision c.args.policy.now bs d.dropped.items d.unmet) (briefs_are c.in-Ok.cases.now ∙ ap (map brief_of) c.in-Ok.ensures.1) decides)
    told.1 told.2

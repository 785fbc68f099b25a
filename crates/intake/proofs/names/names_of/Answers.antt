use Rattle.std.proofs.Common.{◌++◌, List, ℕ, sym, ap, ◌∙◌}
use Rattle.journal_layout.specs.Case.{case_of}
use Rattle.std.proofs.Common.{[], ◌∷◌}
use Rattle.intake.specs.Names.{names_gone}
use Rattle.intake.proofs.NameLemmas.{names_more}
use Rattle.intake.proofs.names.names_of.Goals as goal

pub loop-entry-preserved : goal.loop-entry-preserved
loop-entry-preserved c =
    c.in_ok-add_if_listed.ensures
    ∙ ap (λ (l : List (List ℕ)). l ++ names_gone c.args.seqs.now (case_of c.entry-item.result ∷ [])) c.loop-entry.invariant
    ∙ sym (names_more c.args.seqs.now c.args.entries.now c.loop-entry.entry-index c.entry-item.result c.loop-entry-test.true c.entry-item.is)

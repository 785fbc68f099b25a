use Rattle.std.proofs.Common.{sym, ap, ◌∙◌}
use Rattle.std.specs.Borrow.{Bor}
use Rattle.std.specs.Option.{option_map}
use Rattle.build_replies.specs.declared.used.NumberedCase.{NumberedCase}
use Rattle.build_replies.proofs.UsedLemmas.{number_of_found}
use Rattle.build_replies.proofs.used.number_named.Goals as goal

pub returns-in-Some : goal.returns-in-Some
returns-in-Some c =
    ap (option_map (λ (x : Bor NumberedCase). x.now.number)) (sym c.in-Some.is) ∙ number_of_found c.args.cases.now c.args.name.now _ c.case_named.ensures

pub returns-in-None : goal.returns-in-None
returns-in-None c =
    ap (option_map (λ (x : Bor NumberedCase). x.now.number)) (sym c.in-None.is) ∙ number_of_found c.args.cases.now c.args.name.now _ c.case_named.ensures

use Rattle.std.proofs.Common.{ℕ, map, ap, ◌∙◌}
use Rattle.journal_layout.specs.Case.{case_of}
use Rattle.fair_share.specs.Fairness.{at_place, cores_of, place}
use Rattle.fair_share.specs.declared.choosing.Scope.TheVariants.{Program}
use Rattle.fair_share.proofs.WeighLemmas.{same_count}
use Rattle.fair_share.proofs.choosing.inner.Goals as goal

pub loop-core-init : goal.loop-core-init
loop-core-init c =
    ap (λ (n : ℕ). at_place n (cores_of Program c.args.program.now (map case_of c.args.cases.now)))
    (c.place-left.ensures ∙ ap place (c.count_cores.ensures ∙ same_count c.args.program.now c.args.cases.now))

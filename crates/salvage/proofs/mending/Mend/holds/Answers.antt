use Rattle.std.proofs.Common.{◌-◌, ◌/◌, ◌∙◌, ap, subst, ℕ}
use Rattle.extents.specs.RunLaws.{blocks_of_runs}
use Rattle.extents.specs.Runs.{blocks_of}
use Rattle.salvage.specs.Mending.{AreBelow}
use Rattle.salvage.proofs.mending.Mend.holds.Goals as goal

pub returns : goal.returns
returns c = λ all.
    subst (λ (n : ℕ). AreBelow (n / 4096) c.args.entry.now.runs) (c.saturating_sub-behind.ensures ∙ ap (λ (d : ℕ). c.args.self.now.held - d) c.data_start.ensures)
    (subst (AreBelow (c.saturating_sub-behind.result / 4096)) (ap blocks_of c.runs.ensures.shortest ∙ blocks_of_runs c.args.entry.now.runs) (c.are_before.ensures all))

use Rattle.std.proofs.Common.{ℕ, ◌-◌, ◌≤◌, List, Ok}
use Rattle.disk_model.specs.Places.{part}
use Rattle.script_streams.specs.Replies.{printing}
use Rattle.inspector_cli.specs.Copying.{Copies}
use Rattle.inspector_cli.proofs.copying.copy_range.Given as goal

abbrev pub invariant-loop-done : goal.invariant-loop-done
invariant-loop-done g l = record {
  copies : Copies g.D.Disk l.initial.disk l.disk (printing g.O.Output l.initial.reply l.reply) (λ (b : List ℕ). part b l.range.start l.done) (Ok tt);
  within : l.done ≤ l.range.length;
}

abbrev pub decreases-loop-done : goal.decreases-loop-done
decreases-loop-done g l = l.range.length - l.done

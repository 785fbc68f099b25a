use Rattle.std.proofs.Common.{ℕ, List, take, Ok}
use Rattle.intake.specs.Ranges.{bytes_in}
use Rattle.script_streams.specs.Replies.{printing}
use Rattle.inspector_cli.specs.Copying.{Copies}
use Rattle.inspector_cli.proofs.copying.copy_ranges.Given as goal

abbrev pub invariant-loop-range : goal.invariant-loop-range
invariant-loop-range g l =
    Copies g.D.Disk l.initial.disk l.disk (printing g.O.Output l.initial.reply l.reply) (λ (b : List ℕ). bytes_in b (take l.range-index l.ranges)) (Ok tt)

use Rattle.std.proofs.Common.{length}
use Rattle.intake.proofs.PartLemmas.{PartIsRead}
use Rattle.intake.proofs.part.read_part.Given as goal

abbrev pub invariant-loop-run : goal.invariant-loop-run
invariant-loop-run g l = PartIsRead g.D.Disk l.shape l.runs l.initial.disk l.disk l.at (length l.initial.into) l.into l.skip l.done l.run-index

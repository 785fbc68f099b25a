-- Each turn writes some of the bytes that are left.
use Rattle.std.proofs.Common.{◌≡◌, ◌-◌}
use Rattle.disk_model.proofs.file_disk.write_zeros.Given as goal

abbrev pub invariant-loop-at : goal.invariant-loop-at
invariant-loop-at g l = g.F.HeldFile.facts l.file ≡ g.F.HeldFile.facts l.initial.file

abbrev pub decreases-loop-at : goal.decreases-loop-at
decreases-loop-at g l = l.length - l.at

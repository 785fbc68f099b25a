use Rattle.std.proofs.Common.{◌≤◌, length, drop}
use Rattle.disk_model.specs.Crash.{AllWrites}
use Rattle.disk_model.proofs.crash.synced_count.Given as goal

abbrev pub invariant-loop-count : goal.invariant-loop-count
invariant-loop-count l = (l.count ≤ length l.notes) × AllWrites (drop l.count l.notes)

abbrev pub decreases-loop-count : goal.decreases-loop-count
decreases-loop-count l = l.count

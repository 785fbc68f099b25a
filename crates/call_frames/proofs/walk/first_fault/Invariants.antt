use Rattle.std.proofs.Common.{◌≡◌}
use Rattle.call_frames.specs.EntryWords.{table_view}
use Rattle.call_frames.specs.Walk as spec
use Rattle.call_frames.specs.WalkWords.{spots_left}
use Rattle.call_frames.proofs.walk.first_fault.Given as goal

-- the first fault of all is that of what is left
abbrev pub invariant-loop-spot : goal.invariant-loop-spot
invariant-loop-spot l = spec.first_fault (table_view l.table) ≡ spec.fault_among (table_view l.table) (spots_left l.spots)

use Rattle.std.proofs.Common.{◌≡◌}
use Rattle.call_frames.specs.EntryWords.{table_view}
use Rattle.call_frames.specs.Walk as spec
use Rattle.call_frames.specs.WalkWords.{spots_left}
use Rattle.call_frames.proofs.walk.next_entry.Given as goal

-- what was passed has no FDE without a fault
abbrev pub invariant-loop-spot : goal.invariant-loop-spot
invariant-loop-spot l =
    spec.entries_among (table_view l.table) (spots_left l.initial.spots) ≡ spec.entries_among (table_view l.table) (spots_left l.spots)

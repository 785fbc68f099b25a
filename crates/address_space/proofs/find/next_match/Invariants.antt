use Rattle.std.proofs.Common.{◌≡◌}
use Rattle.address_space.specs.Occurrence.{occurs}
use Rattle.address_space.specs.CursorWords.{IsPlaced, to_come, work_left}
use Rattle.address_space.specs.SpaceWords.{space_of}
use Rattle.address_space.proofs.find.next_match.Given as goal

-- there was no match
abbrev pub invariant-loop-here : goal.invariant-loop-here
invariant-loop-here l = record {
  placed : IsPlaced (space_of l.space) l.ahead;
  same : to_come (space_of l.space) (occurs (space_of l.space) l.needle) l.fn.cursor ≡ to_come (space_of l.space) (occurs (space_of l.space) l.needle) l.ahead;
}

abbrev pub decreases-loop-here : goal.decreases-loop-here
decreases-loop-here l = work_left (space_of l.space) l.ahead

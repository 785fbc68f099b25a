use Rattle.std.proofs.Common.{◌≡◌, ◌≤◌}
use Rattle.address_space.specs.Occurrence.{begins_text}
use Rattle.address_space.specs.CursorWords.{IsPlaced, to_come, work_left}
use Rattle.address_space.specs.SpaceWords.{space_of}
use Rattle.address_space.proofs.strings.next_start.Given as goal

-- no text began
abbrev pub invariant-loop-here : goal.invariant-loop-here
invariant-loop-here l = record {
  placed : IsPlaced (space_of l.space) l.ahead;
  less : work_left (space_of l.space) l.ahead ≤ work_left (space_of l.space) l.fn.cursor;
  same : to_come (space_of l.space) (begins_text (space_of l.space)) l.fn.cursor ≡ to_come (space_of l.space) (begins_text (space_of l.space)) l.ahead;
}

abbrev pub decreases-loop-here : goal.decreases-loop-here
decreases-loop-here l = work_left (space_of l.space) l.ahead

use Rattle.std.proofs.Common.{◌≡◌}
use Rattle.address_space.specs.Occurrence.{begins_text}
use Rattle.address_space.specs.CursorWords.{IsPlaced, to_come, work_left}
use Rattle.address_space.specs.FindWords.{texts_from}
use Rattle.address_space.specs.SpaceWords.{space_of}
use Rattle.address_space.proofs.strings.next_text.Given as goal

-- the texts that went by are too short
abbrev pub invariant-loop-start : goal.invariant-loop-start
invariant-loop-start l = record {
  placed : IsPlaced (space_of l.space) l.ahead;
  same : texts_from (space_of l.space) l.least (to_come (space_of l.space) (begins_text (space_of l.space)) l.fn.cursor) ≡ texts_from (space_of l.space) l.least (to_come (space_of l.space) (begins_text (space_of l.space)) l.ahead);
}

abbrev pub decreases-loop-start : goal.decreases-loop-start
decreases-loop-start l = work_left (space_of l.space) l.ahead

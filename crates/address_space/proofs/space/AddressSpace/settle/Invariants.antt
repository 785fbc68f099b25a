use Rattle.std.proofs.Common.{◌≡◌, ℕ, ◌≤◌, Bool}
use Rattle.address_space.specs.CursorWords.{IsPlaced, WantsValue, to_come, work_left}
use Rattle.address_space.specs.SpaceWords.{space_of}
use Rattle.address_space.proofs.space.AddressSpace.settle.Given as goal

-- what is still to come is the same
abbrev pub invariant-loop-ahead : goal.invariant-loop-ahead
invariant-loop-ahead l = record {
  placed : IsPlaced (space_of l.self) l.ahead;
  less : work_left (space_of l.self) l.ahead ≤ work_left (space_of l.self) l.fn.cursor;
  same : (test : ℕ → Bool) → WantsValue (space_of l.self) test → to_come (space_of l.self) test l.fn.cursor ≡ to_come (space_of l.self) test l.ahead;
}

abbrev pub decreases-loop-ahead : goal.decreases-loop-ahead
decreases-loop-ahead l = work_left (space_of l.self) l.ahead

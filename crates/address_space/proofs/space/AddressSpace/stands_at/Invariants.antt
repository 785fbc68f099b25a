use Rattle.std.proofs.Common.{◌≡◌, ◌+◌, drop}
use Rattle.address_space.specs.Occurrence.{occurs}
use Rattle.address_space.specs.SpaceWords.{space_of}
use Rattle.address_space.proofs.space.AddressSpace.stands_at.Given as goal

-- what went by are the values
abbrev pub invariant-loop-i : goal.invariant-loop-i
invariant-loop-i l = occurs (space_of l.self) l.needle l.at ≡ occurs (space_of l.self) (drop l.i l.needle) (l.at + l.i)

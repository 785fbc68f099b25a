use Rattle.std.proofs.Common.{◌≡◌, ◌+◌, ◌-◌, ◌^◌}
use Rattle.address_space.specs.Occurrence.{text_len}
use Rattle.address_space.specs.SpaceWords.{space_of}
use Rattle.address_space.proofs.space.AddressSpace.text_len.Given as goal

-- the addresses that went by have text
abbrev pub invariant-loop-at : goal.invariant-loop-at
invariant-loop-at l = record {
  far : l.length + l.address ≡ l.at;
  rest : text_len (space_of l.self) l.address (2 ^ 64 - l.address) ≡ l.length + text_len (space_of l.self) l.at (2 ^ 64 - l.at);
}

abbrev pub decreases-loop-at : goal.decreases-loop-at
decreases-loop-at l = 2 ^ 64 - l.at

-- A block whose last bytes are lent, and the slot that it is of.
use Rattle.std.specs.Prelude.{ℕ, List, Option, ◌++◌, ◌%◌, take, drop, length, option_map, slice_set, Result, Ok, Err}
use Rattle.std.specs.Borrow.{Lends, MutBor, Fml, Array, u8}
use Rattle.intake.specs.declared.faults.ArchiveFault.{ArchiveFault}
use Rattle.intake.specs.declared.slots.Slot.{Slot}
use Rattle.intake.specs.Parts.{StreamParts}
use Rattle.intake.specs.Slots.{stream_at}
use Rattle.intake.specs.contracts.buffer.Buffer.{the_row as buffer_row}
use Rattle.intake.specs.contracts.slots.Slot.{the_row as slot_row}
use Rattle.intake.specs.contracts.slots.Slots.{the_row as slots_row}

-- the first bytes of old stay, followed by these; the length stays
abbrev pub refilled : List ℕ → ℕ → List ℕ → List ℕ
refilled old used ws = take (length old) (take used old ++ (ws ++ drop (length ws) (drop used old)))

-- the block ends with these, after its first bytes
abbrev pub LendsTail : MutBor (List ℕ) → ℕ → Result (Unit {0}) ArchiveFault × MutBor (List ℕ) → Fml
LendsTail block from r = Lends buffer_row (Array u8 0) block r.1 (refilled block.now from)

-- the same of the slot that the block is of
abbrev pub reblocked : Slot → ℕ → List ℕ → Slot
reblocked slot from ws = record slot { block = refilled slot.block from ws }

abbrev pub LendsBlock : MutBor Slot → ℕ → Result (Unit {0}) ArchiveFault × MutBor (List ℕ) → Fml
LendsBlock slot from r = Lends slot_row (Array u8 0) slot r.1 (reblocked slot.now from)

abbrev pub with_room : List ℕ → StreamParts → StreamParts
with_room ws s = record s { block = refilled s.block (s.facts.len % 4096) ws }

-- the streams in the slots when the loan ends, with these as the last bytes that were lent
abbrev pub slots_left : List (Option StreamParts) → ℕ → Result (Unit {0}) ArchiveFault → List ℕ → List (Option StreamParts)
slots_left streams slot (Ok u) ws = slice_set streams slot (option_map (with_room ws) (stream_at streams slot))
slots_left streams slot (Err f) ws = streams

abbrev pub LendsSlot : MutBor (List (Option StreamParts)) → ℕ → Result (Unit {0}) ArchiveFault × MutBor (List ℕ) → Fml
LendsSlot streams slot r = Lends slots_row (Array u8 0) streams r.1 (slots_left streams.now slot r.0)

-- The free part of a stream's block, while it is lent.
use Rattle.std.specs.Prelude.{◌≡◌, ◌≢◌, Bool, true, false, ℕ, ◌+◌, ◌%◌, ◌≤◌, List, [], Option, None, Some, Result, Ok, Err, drop, length}
use Rattle.std.specs.Borrow.{Lends, MutBor, Fml, Array, u8, RattleType}
use Rattle.intake.specs.declared.faults.ArchiveFault.{ArchiveFault}
use Rattle.intake.specs.declared.faults.ArchiveFault.TheVariants.{Stopped, NoStream}
use Rattle.intake.specs.Parts.{StreamParts, Parts}
use Rattle.intake.specs.Lending.{slots_left}
use Rattle.intake.specs.Slots.{stream_at}
use Rattle.disk_model.specs.declared.disk.Disk as disk
use Rattle.intake.specs.contracts.archive.Archive.{the_row}

-- the free part of the block that a stream fills
abbrev pub free_part : Option StreamParts → List ℕ
free_part None = []
free_part (Some s) = drop (s.facts.len % 4096) s.block

-- the bytes of these slots that are lent
abbrev pub room_in : List (Option StreamParts) → ℕ → Result (Unit {0}) ArchiveFault → List ℕ
room_in streams slot (Ok u) = free_part (stream_at streams slot)
room_in streams slot (Err f) = []

-- the block that a stream fills is a block
abbrev pub HasBlock : Option StreamParts → Type 0
HasBlock None = Unit {0}
HasBlock (Some s) = length s.block ≡ 4096

-- whether something is lent
abbrev pub SlotReply : Bool → List (Option StreamParts) → ℕ → Result (Unit {0}) ArchiveFault → Type 0
SlotReply stopped streams slot (Ok u) = (stopped ≡ false) × (stream_at streams slot ≢ None)
SlotReply stopped streams slot (Err Stopped) = stopped ≡ true
SlotReply stopped streams slot (Err NoStream) = (stopped ≡ false) × (stream_at streams slot ≡ None)
SlotReply stopped streams slot (Err _) = ⊥

-- the bytes that are lent
abbrev pub room_of : {D : Type 0} → Parts D → ℕ → Result (Unit {0}) ArchiveFault → List ℕ
room_of a slot r = room_in a.streams slot r

-- the archive when the loan ends, with these as the last bytes that were lent
abbrev pub room_left : {D : Type 0} → Parts D → ℕ → Result (Unit {0}) ArchiveFault → List ℕ → Parts D
room_left a slot r ws = record a { streams = slots_left a.streams slot r ws }

-- n bytes are no more than the free part of this stream's block
abbrev pub FitsFree : Option StreamParts → ℕ → Type 0
FitsFree None n = Unit {0}
FitsFree (Some s) n = s.facts.len % 4096 + n ≤ 4096

-- the place where the free part begins, from the contents of a slot that may or may not exist; it is the end if nothing is lent
abbrev pub IsFreeFrom : Bool → Bool → Option StreamParts → ℕ → Result (Unit {0}) ArchiveFault → ℕ → Type 0
IsFreeFrom stopped there o end (Ok u) from = (stopped ≡ false) × (there ≡ true) × (s : StreamParts) × (o ≡ Some s) × (from ≡ s.facts.len % 4096)
IsFreeFrom stopped there o end (Err Stopped) from = (stopped ≡ true) × (from ≡ end)
IsFreeFrom stopped there o end (Err NoStream) from = (stopped ≡ false) × ((there ≡ true) → (o ≡ None)) × (from ≡ end)
IsFreeFrom stopped there o end (Err _) from = ⊥

module _ (D : RattleType) (g : disk.Ghosts D.Denot) where
  abbrev pub LendsRoom : MutBor (Parts D.Denot) → ℕ → Result (Unit {0}) ArchiveFault × MutBor (List ℕ) → Fml
  LendsRoom a slot r = Lends (the_row D g) (Array u8 0) a r.1 (room_left a.now slot r.0)

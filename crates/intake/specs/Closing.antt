-- How a stream is closed: a block for the bytes that fill none, and the record of its case.
use Rattle.std.specs.Prelude.{◌≡◌, ◌≢◌, ◌⊎◌, false, Bool, ℕ, ◌+◌, ◌%◌, ◌^◌, ◌<◌, List, [], ◌∷◌, ◌++◌, length, take, Some, Result, Ok, Err}
use Rattle.journal_layout.specs.declared.shape.Shape.{Shape}
use Rattle.journal_layout.specs.Case.{Case}
use Rattle.journal_layout.specs.Standing.{store_of}
use Rattle.case_journal.specs.declared.faults.JournalFault.{JournalFault}
use Rattle.case_journal.specs.Append.{RecordFits, StoreRefused}
use Rattle.case_journal.specs.Journaled.{Journaled, after_append}
use Rattle.intake.specs.Faults.{fault_of}
use Rattle.intake.specs.declared.faults.ArchiveFault.{ArchiveFault}
use Rattle.intake.specs.declared.faults.ArchiveFault.TheVariants.{SpaceFull, OutOfMemory, Disk}
use Rattle.intake.specs.Balance.{Balances}
use Rattle.intake.specs.Blocks.{joined, image_in, padded}
use Rattle.intake.specs.Contents.{Taken}
use Rattle.intake.specs.Parts.{Parts, StreamParts, contents_of}
use Rattle.intake.specs.Slots.{stream_at}
use Rattle.intake.specs.StreamView.{case_from_parts}

-- the same stream, with these blocks
abbrev pub with_blocks : StreamParts → List ℕ → StreamParts
with_blocks s blocks = record s { facts = record s.facts { blocks = blocks } }

-- a stream is closed if `free` blocks are free: refused in the order of the faults, each under its condition
abbrev pub ClosesStream : ℕ → StreamParts → Result (Unit {0}) ArchiveFault → StreamParts → Type 0
ClosesStream free old (Ok u) new =
    ((old.facts.len % 4096 ≡ 0) × (case_from_parts new ≡ case_from_parts old))
    ⊎ ((old.facts.len % 4096 ≢ 0) × (0 < free) × (length new.facts.blocks ≡ length old.facts.blocks + 1)
    × (case_from_parts new ≡ case_from_parts (with_blocks old new.facts.blocks)))
ClosesStream free old (Err SpaceFull) new = (old.facts.len % 4096 ≢ 0) × (free ≡ 0)
ClosesStream free old (Err OutOfMemory) new = (old.facts.len % 4096 ≢ 0) × (0 < free)
ClosesStream free old (Err Disk) new = (old.facts.len % 4096 ≢ 0) → 0 < free
ClosesStream free old (Err _) new = ⊥

-- its blocks hold its bytes
abbrev pub ClosesBytes : Shape → StreamParts → List ℕ → List ℕ → List ℕ → Type 0
ClosesBytes shape old blocks a b = image_in shape b blocks old.facts.len ≡ joined shape a old.facts.blocks ++ take (old.facts.len % 4096) old.block

-- its blocks joined are its bytes, and zeros to the end of the last one
abbrev pub ClosesPadded : Shape → StreamParts → List ℕ → List ℕ → List ℕ → Type 0
ClosesPadded shape old blocks a b = joined shape b blocks ≡ padded (joined shape a old.facts.blocks ++ take (old.facts.len % 4096) old.block)

-- A finish adds its case as the last one: the case's blocks joined are the bytes that the stream took, and zeros to the end of
-- the last one.
abbrev pub FinishPads : {D : Type 0} → (D → List ℕ) → Parts D → ℕ → Result ℕ ArchiveFault → Parts D → Type 0
FinishPads seen old slot (Ok seq) new =
    (t : Taken) × (c : Case) × (stream_at (contents_of seen old).taken slot ≡ Some t)
    × (new.journal.standing.cases ≡ old.journal.standing.cases ++ c ∷ []) × (joined new.journal.standing.shape (seen new.disk) c.blocks ≡ padded t.bytes)
FinishPads seen old slot (Err f) new = Unit {0}

-- the record of a case is appended, or refused as the journal refuses it
abbrev pub Appends : Journaled → Case → Result ℕ ArchiveFault → Journaled → Type 0
Appends old c (Ok seq) new =
    (old.stopped ≡ false) × RecordFits old.standing (store_of old.standing c) × (old.standing.next < 2 ^ 32)
    × (seq ≡ old.standing.next) × (new ≡ after_append old (store_of old.standing c))
Appends old c (Err f) new = (j : JournalFault) × (f ≡ fault_of j) × StoreRefused old c j new

-- the blocks of a case that was refused are free again
abbrev pub GivesBack : Result ℕ ArchiveFault → List Bool → List ℕ → List Bool → Type 0
GivesBack (Ok seq) old blocks new = new ≡ old
GivesBack (Err f) old blocks new = Balances old blocks new []

-- The meaning of the working state of a reading, and its invariants.
use Rattle.std.specs.Prelude.{◌≡◌, ℕ, ◌^◌, ◌≤◌, Bool, List, length, Option, None, Result, Ok, Err}
use Rattle.std.specs.List.{count_by}
use Rattle.std.specs.Str.{bytes_eq}
use Rattle.std.specs.BTreeSet.{BTreeSet}
use Rattle.arrayvec.specs.ArrayVec.{ArrayVec}
use Rattle.extents.specs.FreeSet.{one_if}
use Rattle.journal_layout.specs.declared.faults.OpenFault.{OpenFault}
use Rattle.journal_layout.specs.declared.faults.OpenFault.TheVariants.{OutOfMemory}
use Rattle.journal_layout.specs.Case.{Case}
use Rattle.journal_layout.specs.Folding.{Folded, after, used_blocks}
use Rattle.journal_layout.specs.Reading.{length_at, record_at}
use Rattle.journal_layout.specs.Checks.{record_fault}
use Rattle.journal_records.specs.declared.cases.Cases.{Cases}
use Rattle.journal_records.specs.Head.{IsHeaded, SaysFault}
use Rattle.journal_records.specs.Live.{cases_of, AreNumbered}
use Rattle.journal_records.specs.Taken.{Accounts}
use Rattle.journal_records.specs.Named.{has_name}

-- the version, the cases and the next number
abbrev pub said_by : Cases → Folded
said_by c = record { version = c.version; cases = cases_of c.live.entries; next = c.next }

-- how many of the cases have this name
abbrev pub bearers : List Case → List ℕ → ℕ
bearers cases name = count_by (λ (c : Case). bytes_eq c.origin.name name) cases

-- the set has a name if and only if one of the cases has it, and no two of them have one name
abbrev pub AreNames : List Case → BTreeSet (ℕ × ArrayVec ℕ) → Type 0
AreNames cases names = (name : List ℕ) → bearers cases name ≡ one_if (has_name names name)

-- These are the flags of `blocks` data blocks, each of which is either one of the cases', once, or free.
pub record IsSpareMap (blocks : ℕ) (cases : List Case) (flags : List Bool) : Type 0 where
  pub size : length flags ≡ blocks
  pub accounts : Accounts (used_blocks cases) flags

-- The entries are under their numbers, all below the next one. The names are those of the entries, each of one entry,
-- and each block is either one of an entry's, or free.
pub record AreKept (c : Cases) : Type 0 where
  pub numbered : AreNumbered 0 c.next c.live.entries
  pub end : c.live.end ≤ c.next
  pub some : 1 ≤ c.next
  pub bound : c.next ≤ 2 ^ 32
  pub names : AreNames (cases_of c.live.entries) c.names
  pub accounts : Accounts (used_blocks (cases_of c.live.entries)) c.free

-- The state says this, on `limit` data blocks.
pub record Says (said : Folded) (limit : ℕ) (c : Cases) : Type 0 where
  pub kept : AreKept c
  pub says : said_by c ≡ said
  pub size : length c.free ≡ limit

-- an error means that there was no memory
abbrev pub OnlyMemory : {A : Type 0} → Result A OpenFault → Type 0
OnlyMemory (Ok a) = Unit {0}
OnlyMemory (Err e) = e ≡ OutOfMemory

-- the answer of the reading of a record, and the state after it: the record's first fault, or the state before, changed by the record
abbrev pub Reads : Option OpenFault → Folded → ℕ → Result (Unit {0}) OpenFault → Cases → Type 0
Reads fault said limit (Ok done) new = (fault ≡ None) × Says said limit new
Reads fault said limit (Err e) new = SaysFault fault e

-- the same of a whole record with its head: if it has no fault, its length is returned
abbrev pub ReadsRecord : ℕ → List ℕ → Cases → Result ℕ OpenFault → Cases → Type 0
ReadsRecord at rest old (Ok size) new =
    (record_fault (length old.free) at rest (said_by old) ≡ None) × Says (after (record_at rest) (said_by old)) (length old.free) new × (size ≡ length_at rest) × IsHeaded rest
ReadsRecord at rest old (Err e) new = SaysFault (record_fault (length old.free) at rest (said_by old)) e

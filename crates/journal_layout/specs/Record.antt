-- Journal records and their spelling: a gate, a kind, two zeros, the length of the whole record, a body, and zeros up to a
-- multiple of 16 bytes.
use Rattle.std.specs.Prelude.{ℕ, ◌+◌, ◌-◌, ◌*◌, ◌/◌, Bool, List, [], ◌∷◌, ◌++◌, length, replicate, if◌then◌else◌}
use Rattle.std.specs.List.{flat_map}
use Rattle.journal_layout.specs.Layout.{number_bytes}
use Rattle.extents.specs.declared.run_list.Run.{Run}
use Rattle.extents.specs.Runs.{runs_of}
use Rattle.journal_layout.specs.declared.entry.Kind.{Kind}
use Rattle.journal_layout.specs.declared.entry.Kind.TheVariants.{Core, Exec}
use Rattle.journal_layout.specs.Case.{Case}

pub data Record : Type 0 where
  -- a case begins
  Store : Case → Record
  -- the cases with these numbers end
  Drop : List ℕ → Record
  -- a case is pinned from here on, or no longer
  Pin : ℕ → Bool → Record
  -- the next case gets this number
  Next : ℕ → Record
  -- a case has this label from here on
  Label : ℕ → List ℕ → Record

-- rounded up to a multiple of 16
abbrev pub rounded : ℕ → ℕ
rounded n = (n + 15) / 16 * 16

-- the byte of a kind of image
abbrev pub kind_byte : Kind → ℕ
kind_byte Core = 1
kind_byte Exec = 2

abbrev pub flag_byte : Bool → ℕ
flag_byte b = if b then 1 else 0

unfoldable pub run_bytes : Run → List ℕ
run_bytes r = number_bytes 4 r.start ++ number_bytes 4 r.count

unfoldable pub seq_bytes : ℕ → List ℕ
seq_bytes seq = number_bytes 4 seq

-- the body of a Store record up to its runs: places 8 to 48 of the record. The case's label is no part of it.
unfoldable pub store_facts : Case → List ℕ
store_facts c =
    number_bytes 4 c.seq ++ (kind_byte c.origin.kind ∷ flag_byte c.pinned ∷ []) ++ number_bytes 2 (length c.origin.name)
    ++ number_bytes 4 c.origin.pid ++ number_bytes 4 c.origin.signal ++ number_bytes 8 c.origin.time ++ number_bytes 8 c.len
    ++ number_bytes 4 (length (runs_of c.blocks)) ++ replicate 4 0

-- the bytes of a record without its padding
abbrev pub plain_size : Record → ℕ
plain_size (Store c) = 48 + 8 * length (runs_of c.blocks) + length c.origin.name
plain_size (Drop seqs) = 12 + 4 * length seqs
plain_size (Pin seq flag) = 13
plain_size (Next n) = 16
plain_size (Label seq text) = 16 + length text

-- the bytes of a record
abbrev pub record_size : Record → ℕ
record_size r = rounded (plain_size r)

-- the byte of a kind of record
abbrev pub record_kind : Record → ℕ
record_kind (Store c) = 1
record_kind (Drop seqs) = 2
record_kind (Pin seq flag) = 3
record_kind (Next n) = 4
record_kind (Label seq text) = 5

-- a record's bytes from place 8 on
unfoldable pub body : Record → List ℕ
body (Store c) = store_facts c ++ flat_map run_bytes (runs_of c.blocks) ++ c.origin.name
body (Drop seqs) = number_bytes 4 (length seqs) ++ flat_map seq_bytes seqs
body (Pin seq flag) = number_bytes 4 seq ++ flag_byte flag ∷ []
body (Next n) = number_bytes 8 n
body (Label seq text) = number_bytes 4 seq ++ number_bytes 2 (length text) ++ replicate 2 0 ++ text

-- a record after its gate, without its padding
unfoldable pub plain : Record → List ℕ
plain r = (record_kind r ∷ 0 ∷ 0 ∷ []) ++ number_bytes 4 (record_size r) ++ body r

-- a record after its gate
unfoldable pub behind_gate : Record → List ℕ
behind_gate r = plain r ++ replicate (record_size r - plain_size r) 0

-- a record whose gate is open
abbrev pub spelling : Record → List ℕ
spelling r = 165 ∷ behind_gate r

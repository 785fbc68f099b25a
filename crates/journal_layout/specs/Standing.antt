-- The content of an archive's journal.
use Rattle.std.specs.Prelude.{ℕ, ◌+◌, [], List}
use Rattle.journal_layout.specs.declared.shape.Shape.{Shape}
use Rattle.journal_layout.specs.declared.shape.Half.{Half}
use Rattle.journal_layout.specs.Case.{Case, numbered}
use Rattle.journal_layout.specs.Record.{Record, Store, record_size}
use Rattle.journal_layout.specs.Folding.{Folded, after}

pub record Standing : Type 0 where
  pub shape : Shape
  -- the half whose records count
  pub half : Half
  -- of that half's layout
  pub version : ℕ
  pub generation : ℕ
  pub cases : List Case
  -- the number of the next case
  pub next : ℕ
  -- the bytes of the taken half's header and records
  pub used : ℕ

-- the meaning of its records
abbrev pub folded_of : Standing → Folded
folded_of s = record { version = s.version; cases = s.cases; next = s.next }

-- an archive with no record
abbrev pub fresh : Shape → Half → ℕ → ℕ → Standing
fresh shape half version generation =
    record { shape = shape; half = half; version = version; generation = generation; cases = []; next = 1; used = 32 }

-- after one record more after the others
abbrev pub lengthened : Standing → Record → Standing
lengthened s r = record s {
  cases = (after r (folded_of s)).cases;
  next = (after r (folded_of s)).next;
  used = s.used + record_size r;
}

-- the record of a case, which gets the next number
abbrev pub store_of : Standing → Case → Record
store_of s c = Store (numbered s.next c)

-- Reading a record from its bytes, field by field. The bytes are those of the half from the record's gate on.
use Rattle.std.specs.Prelude.{ℕ, zero, suc, ◌+◌, ◌*◌, ◌==◌, List, [], ◌∷◌, slice_index, drop, if◌then◌else◌}
use Rattle.disk_model.specs.Places.{part}
use Rattle.extents.specs.declared.run_list.Run.{Run}
use Rattle.extents.specs.Runs.{blocks_of}
use Rattle.journal_layout.specs.declared.entry.Kind.{Kind}
use Rattle.journal_layout.specs.declared.entry.Kind.TheVariants.{Core, Exec}
use Rattle.journal_layout.specs.Layout.{field}
use Rattle.journal_layout.specs.Case.{Case, Origin}
use Rattle.journal_layout.specs.Record.{Record, Store, Drop, Pin, Next, Label}

-- every record
abbrev pub kind_at : List ℕ → ℕ
kind_at rest = slice_index rest 1

abbrev pub length_at : List ℕ → ℕ
length_at rest = field rest 4 4

-- The choice by the byte of a kind: one for each kind of record, in the order of their bytes, and the last for a byte of no kind.
abbrev pub by_kind : {X : Type 0} → ℕ → X → X → X → X → X → X → X
by_kind kind store drop pin next label none =
    if kind == 1 then store
    else if kind == 2 then drop
    else if kind == 3 then pin
    else if kind == 4 then next
    else if kind == 5 then label
    else none

-- Store
abbrev pub name_length_at : List ℕ → ℕ
name_length_at rest = field rest 14 2

abbrev pub run_count_at : List ℕ → ℕ
run_count_at rest = field rest 40 4

-- the n runs at the front of these bytes
abbrev pub runs_at : List ℕ → ℕ → List Run
runs_at bytes zero = []
runs_at bytes (suc n) = record { start = field bytes 0 4; count = field bytes 4 4 } ∷ runs_at (drop 8 bytes) n

abbrev pub store_runs : List ℕ → List Run
store_runs rest = runs_at (drop 48 rest) (run_count_at rest)

-- the start of the name, after the runs
abbrev pub name_place : List ℕ → ℕ
name_place rest = 48 + 8 * run_count_at rest

abbrev pub name_at : List ℕ → List ℕ
name_at rest = part rest (name_place rest) (name_length_at rest)

abbrev pub kind_of_byte : ℕ → Kind
kind_of_byte b = if b == 1 then Core else Exec

abbrev pub origin_at : List ℕ → Origin
origin_at rest = record {
  kind = kind_of_byte (slice_index rest 12);
  name = name_at rest;
  pid = field rest 16 4;
  signal = field rest 20 4;
  time = field rest 24 8;
}

-- a case as it is stored, without a label
abbrev pub case_at : List ℕ → Case
case_at rest = record {
  seq = field rest 8 4;
  origin = origin_at rest;
  pinned = slice_index rest 13 == 1;
  len = field rest 32 8;
  blocks = blocks_of (store_runs rest);
  label = [];
}

-- the n numbers of cases at the front of these bytes
abbrev pub seqs_at : List ℕ → ℕ → List ℕ
seqs_at bytes zero = []
seqs_at bytes (suc n) = field bytes 0 4 ∷ seqs_at (drop 4 bytes) n

-- Drop
abbrev pub seq_count_at : List ℕ → ℕ
seq_count_at rest = field rest 8 4

abbrev pub drop_seqs : List ℕ → List ℕ
drop_seqs rest = seqs_at (drop 12 rest) (seq_count_at rest)

-- Label
abbrev pub label_length_at : List ℕ → ℕ
label_length_at rest = field rest 12 2

abbrev pub label_at : List ℕ → List ℕ
label_at rest = part rest 16 (label_length_at rest)

-- the record, or one that is never sound if the byte is no kind
unfoldable pub record_at : List ℕ → Record
record_at rest =
    by_kind (kind_at rest)
    (Store (case_at rest))
    (Drop (drop_seqs rest))
    (Pin (field rest 8 4) (slice_index rest 12 == 1))
    (Next (field rest 8 8))
    (Label (field rest 8 4) (label_at rest))
    (Drop [])

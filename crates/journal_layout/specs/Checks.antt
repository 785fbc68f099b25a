-- The checks of a record, in their order, each with its place in the record and the field that is
-- bad if the check fails. The bytes are those of the half from the record's gate on, `at` is the
-- gate's place on the disk, and the cases and the next number come from the records before it.
use Rattle.std.specs.Prelude.{ℕ, ◌+◌, ◌-◌, ◌*◌, ◌%◌, ◌^◌, ◌==◌, ◌&&◌, ◌||◌, not, nat_lt, nat_le, Bool, true, false, if◌then◌else◌, List, [], ◌∷◌, ◌++◌, length, slice_index, Option, None, Some}
use Rattle.std.specs.Option.{option_or, option_map, is_none}
use Rattle.std.specs.List.{list_any}
use Rattle.disk_model.specs.Places.{part}
use Rattle.extents.specs.declared.run_list.Run.{Run}
use Rattle.extents.specs.Runs.{run_blocks}
use Rattle.journal_layout.specs.declared.faults.Field.{Field}
use Rattle.journal_layout.specs.declared.faults.Field.TheVariants as named
use Rattle.journal_layout.specs.declared.faults.OpenFault.{OpenFault}
use Rattle.journal_layout.specs.declared.faults.OpenFault.TheVariants.{Damaged}
use Rattle.journal_layout.specs.Layout.{field}
use Rattle.journal_layout.specs.Case.{Case}
use Rattle.journal_layout.specs.Record.{rounded}
use Rattle.journal_layout.specs.Reading.{kind_at, length_at, by_kind, name_length_at, run_count_at, store_runs, name_place, name_at, seq_count_at, drop_seqs, label_length_at}
use Rattle.journal_layout.specs.Folding.{Folded, is_among, used_blocks, is_name_of}
use Rattle.journal_layout.specs.Soundness.{blocks_for, case_numbered, last_kind}

-- whether it fails, at which place of the record, and the field
abbrev pub Check : Type 0
Check = Bool × ℕ × Field

abbrev pub damaged : ℕ → Field → ℕ → OpenFault
damaged at which place = Damaged (at + place) which

-- the first check that fails
abbrev pub first_failing : ℕ → List Check → Option OpenFault
first_failing at [] = None
first_failing at (check ∷ checks) = if check.0 then Some (damaged at check.2 check.1) else first_failing at checks

-- the place of the first of these bytes that is not zero, the first of them being at this place
abbrev pub first_set : ℕ → List ℕ → Option ℕ
first_set place [] = None
first_set place (b ∷ rest) = if b == 0 then first_set (place + 1) rest else Some place

-- the zeros that fill a record up
abbrev pub padding_fault : ℕ → List ℕ → ℕ → Option OpenFault
padding_fault at rest from = option_map (damaged at named.Padding) (first_set from (part rest from (length_at rest - from)))

-- The length is that of a record, and the record and the gate after it lie in the half.
abbrev pub is_bad_length : List ℕ → Bool
is_bad_length rest = nat_lt (length_at rest) 16 || not (length_at rest % 16 == 0) || nat_lt (length rest) (length_at rest + 1)

-- The checks of the first fields of every record, in a half of this version. 17 bytes are left, at least.
abbrev pub head_checks : ℕ → List ℕ → List Check
head_checks version rest =
    (nat_lt (length rest) 17, 4, named.Length)
    ∷ (not (nat_le 1 (kind_at rest) && nat_le (kind_at rest) (last_kind version)), 1, named.Kind)
    ∷ (not (field rest 2 2 == 0), 2, named.Reserved)
    ∷ (is_bad_length rest, 4, named.Length)
    ∷ []

-- Store, up to its runs
abbrev pub store_checks : List ℕ → Folded → List Check
store_checks rest f =
    (nat_lt (field rest 8 4) f.next, 8, named.Seq)
    ∷ (not (slice_index rest 12 == 1) && not (slice_index rest 12 == 2), 12, named.CaseKind)
    ∷ (nat_lt 1 (slice_index rest 13), 13, named.Pinned)
    ∷ (name_length_at rest == 0 || nat_lt 128 (name_length_at rest), 14, named.NameLength)
    ∷ (not (rounded (48 + 8 * run_count_at rest + name_length_at rest) == length_at rest), 40, named.Runs)
    ∷ (not (field rest 44 4 == 0), 44, named.Reserved)
    ∷ []

-- the run begins where the run before it ends
abbrev pub is_adjoining : Option ℕ → Run → Bool
is_adjoining None r = false
is_adjoining (Some end) r = end == r.start

-- some block of the run is among these
abbrev pub is_overlapping : List ℕ → Run → Bool
is_overlapping used r = list_any (is_among used) (run_blocks r)

abbrev pub is_bad_run : ℕ → List ℕ → Option ℕ → Run → Bool
is_bad_run limit used end r =
    r.count == 0 || nat_lt limit (r.start + r.count) || is_adjoining end r || is_overlapping used r

-- the place of the first bad run, if the first run is at this place and follows a run that ends there
abbrev pub first_bad_run : ℕ → List ℕ → Option ℕ → ℕ → List Run → Option ℕ
first_bad_run limit used end place [] = None
first_bad_run limit used end place (r ∷ rest) =
    if is_bad_run limit used end r then Some place
    else first_bad_run limit (used ++ run_blocks r) (Some (r.start + r.count)) (place + 8) rest

abbrev pub runs_fault : ℕ → ℕ → List ℕ → Folded → Option OpenFault
runs_fault limit at rest f = option_map (damaged at named.Run) (first_bad_run limit (used_blocks f.cases) None 48 (store_runs rest))

-- the blocks of the runs, counted
abbrev pub block_count : List Run → ℕ
block_count [] = 0
block_count (r ∷ rest) = r.count + block_count rest

-- Store, after its runs
abbrev pub name_checks : List ℕ → Folded → List Check
name_checks rest f =
    (not (block_count (store_runs rest) == blocks_for (field rest 32 8)), 32, named.ImageLength)
    ∷ (is_among (name_at rest) 0 || is_name_of f.cases (name_at rest), name_place rest, named.Name)
    ∷ []

abbrev pub store_fault : ℕ → ℕ → List ℕ → Folded → Option OpenFault
store_fault limit at rest f =
    option_or (first_failing at (store_checks rest f))
    (option_or (runs_fault limit at rest f)
    (option_or (first_failing at (name_checks rest f)) (padding_fault at rest (name_place rest + name_length_at rest))))

-- Drop: some numbers, and as many as fit
abbrev pub count_checks : List ℕ → List Check
count_checks rest =
    (seq_count_at rest == 0 || not (rounded (12 + 4 * seq_count_at rest) == length_at rest), 8, named.Count) ∷ []

-- a case that may not be dropped, or none
abbrev pub is_kept : Option Case → Bool
is_kept None = true
is_kept (Some c) = c.pinned

-- the place of the first bad number, if the first of them is at this place and follows the number `last`. A number is bad if it is not greater than
-- the one before, if no live case has it, or if its case is pinned.
abbrev pub first_bad_seq : List Case → ℕ → ℕ → List ℕ → Option ℕ
first_bad_seq cases last place [] = None
first_bad_seq cases last place (seq ∷ rest) =
    if nat_le seq last || is_kept (case_numbered seq cases) then Some place else first_bad_seq cases seq (place + 4) rest

abbrev pub drop_fault : ℕ → List ℕ → Folded → Option OpenFault
drop_fault at rest f =
    option_or (first_failing at (count_checks rest))
    (option_or (option_map (damaged at named.Seq) (first_bad_seq f.cases 0 12 (drop_seqs rest)))
    (padding_fault at rest (12 + 4 * seq_count_at rest)))

-- Pin: of 16 bytes, a live case, and a flag
abbrev pub pin_checks : List ℕ → Folded → List Check
pin_checks rest f =
    (not (length_at rest == 16), 4, named.Length)
    ∷ (is_none (case_numbered (field rest 8 4) f.cases), 8, named.Seq)
    ∷ (nat_lt 1 (slice_index rest 12), 12, named.Flag)
    ∷ []

abbrev pub pin_fault : ℕ → List ℕ → Folded → Option OpenFault
pin_fault at rest f = option_or (first_failing at (pin_checks rest f)) (padding_fault at rest 13)

-- Next: of 16 bytes, and a number that is not below the next one and at most 2^32
abbrev pub next_checks : List ℕ → Folded → List Check
next_checks rest f =
    (not (length_at rest == 16), 4, named.Length)
    ∷ (nat_lt (field rest 8 8) f.next || nat_lt (2 ^ 32) (field rest 8 8), 8, named.Next)
    ∷ []

-- Label: a live case, at most 64 bytes, two zeros, and the length that they need
abbrev pub label_checks : List ℕ → Folded → List Check
label_checks rest f =
    (is_none (case_numbered (field rest 8 4) f.cases), 8, named.Seq)
    ∷ (nat_lt 64 (label_length_at rest), 12, named.LabelLength)
    ∷ (not (field rest 14 2 == 0), 14, named.Reserved)
    ∷ (not (rounded (16 + label_length_at rest) == length_at rest), 4, named.Length)
    ∷ []

abbrev pub label_fault : ℕ → List ℕ → Folded → Option OpenFault
label_fault at rest f = option_or (first_failing at (label_checks rest f)) (padding_fault at rest (16 + label_length_at rest))

-- by the record's kind; a byte that is no kind is itself the bad field
abbrev pub body_fault : ℕ → ℕ → List ℕ → Folded → Option OpenFault
body_fault limit at rest f =
    by_kind (kind_at rest)
    (store_fault limit at rest f)
    (drop_fault at rest f)
    (pin_fault at rest f)
    (first_failing at (next_checks rest f))
    (label_fault at rest f)
    (Some (damaged at named.Kind 1))

-- the first fault of a record, if it has any
unfoldable pub record_fault : ℕ → ℕ → List ℕ → Folded → Option OpenFault
record_fault limit at rest f = option_or (first_failing at (head_checks f.version rest)) (body_fault limit at rest f)

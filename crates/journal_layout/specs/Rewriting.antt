-- The journal after it is rewritten: the other half holds the cases anew, and is taken.
use Rattle.std.specs.Prelude.{◌≡◌, ◌≢◌, ℕ, ◌+◌, ◌^◌, ◌<◌, ◌≤◌, Bool, true, nat_lt, if◌then◌else◌, List, [], ◌∷◌, ◌++◌, slice_index}
use Rattle.std.specs.List.{flat_map}
use Rattle.disk_model.specs.Places.{part}
use Rattle.journal_layout.specs.declared.shape.Half.{Half}
use Rattle.journal_layout.specs.declared.shape.Half.TheVariants.{A, B}
use Rattle.journal_layout.specs.Layout.{half_start, half_length, half_header}
use Rattle.journal_layout.specs.Case.{Case, unlabelled}
use Rattle.journal_layout.specs.Record.{Record, Store, Next, Label, record_size, spelling}
use Rattle.journal_layout.specs.Folding.{Folded, after, sizes}
use Rattle.journal_layout.specs.Soundness.{IsSound}
use Rattle.journal_layout.specs.Front.{is_known}
use Rattle.journal_layout.specs.Live.{AreLive, AreLabelled}
use Rattle.journal_layout.specs.Standing.{Standing, folded_of}

abbrev pub other_half : Half → Half
other_half A = B
other_half B = A

-- the start of the half that is not taken
abbrev pub other_start : Standing → ℕ
other_start s = half_start s.shape (other_half s.half)

-- the record of a case's label, if the label is not empty
abbrev pub label_records : ℕ → List ℕ → List Record
label_records seq [] = []
label_records seq (b ∷ rest) = Label seq (b ∷ rest) ∷ []

-- the records that say a case
abbrev pub case_records : Case → List Record
case_records c = Store (unlabelled c) ∷ label_records c.seq c.label

-- The records that say these cases and this next number, and nothing else: those of each case, in the order of their
-- numbers, and one of the next number. If no case has a label, they are records of both versions.
abbrev pub snapshot : Folded → List Record
snapshot f = flat_map case_records f.cases ++ Next f.next ∷ []

-- the bytes of the records that say the cases
abbrev pub case_bytes : List Case → ℕ
case_bytes cases = sizes (flat_map case_records cases)

-- the bytes of a half's header and these records
abbrev pub snapshot_size : Folded → ℕ
snapshot_size f = 32 + sizes (snapshot f)

-- each record may follow those before it
abbrev pub AreSound : ℕ → Folded → List Record → Type 0
AreSound limit f [] = Unit {0}
AreSound limit f (r ∷ rest) = IsSound limit f r × AreSound limit (after r f) rest

-- after the other half got these records and was taken
abbrev pub rewritten : Standing → Folded → Standing
rewritten s f = record s {
  half = other_half s.half;
  version = f.version;
  generation = s.generation + 1;
  cases = f.cases;
  next = f.next;
  used = snapshot_size f;
}

-- the same cases and next number in version 2 of the layout
abbrev pub in_version_two : Folded → Folded
in_version_two f = record f { version = 2 }

-- after they were written anew in that version
abbrev pub upgraded : Standing → Standing
upgraded s = rewritten s (in_version_two (folded_of s))

-- The other half of these bytes holds the records after a header of the next generation, and after them a gate that is not open. Its own gate is not looked at.
pub record HoldsSnapshot (s : Standing) (f : Folded) (b : List ℕ) : Type 0 where
  pub header : part b (other_start s + 1) 31 ≡ half_header f.version (s.generation + 1)
  pub records : part b (other_start s + 32) (sizes (snapshot f)) ≡ flat_map spelling (snapshot f)
  pub closed : slice_index b (other_start s + snapshot_size f) ≢ 165

-- the cases may be written anew into the other half
pub record MayRewrite (s : Standing) (f : Folded) : Type 0 where
  pub live : AreLive s.shape.data_blocks f.cases f.next
  pub labels : AreLabelled f.version f.cases
  pub known : is_known f.version ≡ true
  -- with the gate after the records
  pub in_half : snapshot_size f + 1 ≤ half_length s.shape
  -- the next one goes into its field
  pub generation : s.generation + 1 < 2 ^ 64

-- the record, and the gate after it, fit after those of the taken half
abbrev pub fits : Standing → Record → Bool
fits s r = nat_lt (s.used + record_size r) (half_length s.shape)

-- After one more record: after the others if it fits there, otherwise in the other half, with all written anew.
abbrev pub appended : Standing → Record → Standing
appended s r = record s {
  half = if fits s r then s.half else other_half s.half;
  generation = if fits s r then s.generation else s.generation + 1;
  cases = (after r (folded_of s)).cases;
  next = (after r (folded_of s)).next;
  used = if fits s r then s.used + record_size r else snapshot_size (after r (folded_of s));
}

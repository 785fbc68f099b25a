-- The laws that tie the spelling of a record to the checks of an opening, as statements.
use Rattle.std.specs.Prelude.{◌≡◌, ◌≢◌, ℕ, ◌+◌, ◌^◌, ◌<◌, ◌≤◌, List, length, slice_index, None, Some, Ok, Result}
use Rattle.std.specs.List.{All}
use Rattle.disk_model.specs.Places.{AreBytes, SameOutside}
use Rattle.journal_layout.specs.declared.faults.OpenFault.{OpenFault}
use Rattle.journal_layout.specs.Layout.{half_length}
use Rattle.journal_layout.specs.Case.{Case}
use Rattle.journal_layout.specs.Record.{Record, Drop, Label, record_size}
use Rattle.journal_layout.specs.Folding.{Folded, nothing_yet, after, replayed, sizes}
use Rattle.journal_layout.specs.Soundness.{IsSound, case_numbered}
use Rattle.journal_layout.specs.Reading.{record_at, length_at}
use Rattle.journal_layout.specs.Checks.{record_fault}
use Rattle.journal_layout.specs.Standing.{Standing, folded_of}
use Rattle.journal_layout.specs.Stands.{StandsFirst, Stands, Opening}
use Rattle.journal_layout.specs.Live.{AreLive, HasNoLabel, AreLabelled}
use Rattle.journal_layout.specs.Rewriting.{other_start, label_records, snapshot, snapshot_size, AreSound, rewritten, in_version_two, upgraded, HoldsSnapshot, MayRewrite}

-- the bytes are read as this record: its gate is open, no check of it fails, and its fields are those of the record
pub record IsToldBy (limit at : ℕ) (rest : List ℕ) (f : Folded) (r : Record) : Type 0 where
  pub opened : slice_index rest 0 ≡ 165
  pub faultless : record_fault limit at rest f ≡ None
  pub is : record_at rest ≡ r

-- a record that is written is read back
abbrev pub RecordsAreReadAgain : Type 0
RecordsAreReadAgain =
    (limit at : ℕ) (rest : List ℕ) (f : Folded) (r : Record) → limit ≤ 16777216 → length rest ≤ 2 ^ 32
    → StandsFirst limit rest f r → IsToldBy limit at rest f r

-- a record that is read is in the grammar, and has the length in its length field
abbrev pub WhatIsReadStands : Type 0
WhatIsReadStands =
    (limit at : ℕ) (rest : List ℕ) (f : Folded) → AreBytes rest → slice_index rest 0 ≡ 165 → record_fault limit at rest f ≡ None
    → StandsFirst limit rest f (record_at rest) × (record_size (record_at rest) ≡ length_at rest)

-- no record's spelling begins another's, and a record has one spelling
abbrev pub RecordsAreApart : Type 0
RecordsAreApart =
    (limit : ℕ) (bytes : List ℕ) (f g : Folded) (r s : Record) → limit ≤ 16777216 → length bytes ≤ 2 ^ 32
    → StandsFirst limit bytes f r → StandsFirst limit bytes g s → r ≡ s

-- an opening has one answer
abbrev pub OpeningsHaveOneAnswer : Type 0
OpeningsHaveOneAnswer = (b : List ℕ) (x y : Result Standing OpenFault) → Opening b x → Opening b y → x ≡ y

-- bytes that encode an archive open as that archive and as nothing else
abbrev pub WhatStandsOpens : Type 0
WhatStandsOpens = (b : List ℕ) (s : Standing) (x : Result Standing OpenFault) → Stands b s → Opening b x → x ≡ Ok s

-- the cases that bytes encode are live: all invariants of live cases hold
abbrev pub WhatStandsIsLive : Type 0
WhatStandsIsLive = (b : List ℕ) (s : Standing) → Stands b s → AreLive s.shape.data_blocks s.cases s.next

-- and labels in version 2 alone
abbrev pub WhatStandsIsLabelled : Type 0
WhatStandsIsLabelled = (b : List ℕ) (s : Standing) → Stands b s → AreLabelled s.version s.cases

-- in version 1 no case has one
abbrev pub VersionOneHasNoLabels : Type 0
VersionOneHasNoLabels = (b : List ℕ) (s : Standing) → Stands b s → s.version ≡ 1 → All HasNoLabel s.cases

-- the records of live cases are sound one after the other, and say exactly these cases and this next number
abbrev pub SnapshotsSayAll : Type 0
SnapshotsSayAll =
    (limit : ℕ) (f : Folded) → AreLive limit f.cases f.next → AreLabelled f.version f.cases
    → AreSound limit (nothing_yet f.version) (snapshot f) × (replayed (snapshot f) (nothing_yet f.version) ≡ f)

-- while the other half's gate is not open, it may hold anything
abbrev pub TheOtherHalfIsApart : Type 0
TheOtherHalfIsApart =
    (b c : List ℕ) (s : Standing) → Stands b s → SameOutside (other_start s) (half_length s.shape) b c → slice_index c (other_start s) ≢ 165
    → Stands c s

-- and once it is opened over a snapshot, the bytes encode that
abbrev pub AnOpenedHalfStands : Type 0
AnOpenedHalfStands =
    (b c : List ℕ) (s : Standing) (f : Folded) → Stands b s → MayRewrite s f → HoldsSnapshot s f b → SameOutside (other_start s) 1 b c
    → slice_index c (other_start s) ≡ 165 → Stands c (rewritten s f)

-- The cases that are encoded in version 1 may be written anew as a snapshot in version 2, if it has room. Once the other half is opened over it, the
-- bytes encode the same cases and the same next number, and still no case has a label.
abbrev pub AnUpgradeSaysTheSame : Type 0
AnUpgradeSaysTheSame =
    (b c : List ℕ) (s : Standing) → Stands b s → s.version ≡ 1
    → snapshot_size (in_version_two (folded_of s)) + 1 ≤ half_length s.shape → s.generation + 1 < 2 ^ 64
    → HoldsSnapshot s (in_version_two (folded_of s)) b → SameOutside (other_start s) 1 b c → slice_index c (other_start s) ≡ 165
    → Stands c (upgraded s) × ((upgraded s).version ≡ 2) × ((upgraded s).cases ≡ s.cases) × ((upgraded s).next ≡ s.next)
    × All HasNoLabel (upgraded s).cases

-- a snapshot takes as many bytes more, or fewer, as the record of the new label takes more than that of the old one
abbrev pub LabelsTakeTheirRecords : Type 0
LabelsTakeTheirRecords =
    (limit seq : ℕ) (f : Folded) (text : List ℕ) (c : Case) → AreLive limit f.cases f.next → case_numbered seq f.cases ≡ Some c
    → snapshot_size (after (Label seq text) f) + sizes (label_records seq c.label) ≡ snapshot_size f + sizes (label_records seq text)

-- the snapshot of the cases that stay after a drop fits into the other half
abbrev pub DropsFit : Type 0
DropsFit =
    (b : List ℕ) (s : Standing) (seqs : List ℕ) → Stands b s → IsSound s.shape.data_blocks (folded_of s) (Drop seqs)
    → snapshot_size (after (Drop seqs) (folded_of s)) + 1 ≤ half_length s.shape

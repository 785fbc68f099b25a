-- The report on the cases of an archive, by its bytes.
use Rattle.std.specs.Prelude.{◌≡◌, ◌≢◌, ◌⊎◌, ℕ, ◌+◌, ◌*◌, ◌<◌, true, List, slice_index, None, Option, Some}
use Rattle.std.specs.List.{Contains}
use Rattle.disk_model.specs.Places.{part}
use Rattle.journal_layout.specs.Case.{Case, case_of}
use Rattle.journal_layout.specs.Layout.{data_start, half_length, half_start}
use Rattle.journal_layout.specs.declared.shape.Half.{Half}
use Rattle.journal_layout.specs.declared.shape.Shape.{Shape}
use Rattle.salvage.specs.Alone.{HasHead, IsDropBody, IsPast, IsWithinOther, StoresCase, between, was_open}
use Rattle.salvage.specs.Cases.{HasCase}
use Rattle.salvage.specs.Contests.{Contests, OfEachBehind}
use Rattle.salvage.specs.Doubting.{IsBound, trouble_by}
use Rattle.salvage.specs.Readings.{IsBelow, SeesCases, first_fault}
use Rattle.salvage.specs.Reads.{IsFrom}
use Rattle.salvage.specs.Records.{IsDeleted, number_of}
use Rattle.salvage.specs.Told.{AreTold, IsTold, Line}
use Rattle.salvage.specs.declared.cases_found.Found.{Found}
use Rattle.salvage.specs.declared.cases_found.Loss.{Loss}
use Rattle.salvage.specs.declared.doubts.Trouble.{Trouble}
use Rattle.salvage.specs.declared.records.Read.{Read}
use Rattle.salvage.specs.declared.printing.Mark.TheVariants.{Lost, Whole}

-- A Store record of a half says this case which reads by itself at this place of the bytes before the data blocks, and it has a line; or the
-- record lies within another, or past the end of the records of the half.
abbrev pub IsHeardOf : Shape → List ℕ → ℕ → ℕ → ℕ → List Line → Case → Type 0
IsHeardOf shape front begin end place lines c = IsTold lines c ⊎ IsWithinOther shape.data_blocks front end place ⊎ IsPast shape.data_blocks front begin end place

-- If there is a fault, each case of a Store record that reads by itself in a half has a line, whatever the records before it say: whether the
-- case is copied or lost. It has none only if the record lies within another, or past the end of the records.
abbrev pub EachReadableCaseIsTold : Type 0
EachReadableCaseIsTold =
    (b : List ℕ) (f : Found) (lines : List Line) → SeesCases b f → AreTold f lines → first_fault f ≢ None
    → (half : Half) → was_open (slice_index (part b 0 (data_start f.first.standing.shape)) (half_start f.first.standing.shape half)) ≡ true
    → (k place size : ℕ) (c : Case) → place ≡ half_start f.first.standing.shape half + 32 + 16 * k
    → place < half_start f.first.standing.shape half + half_length f.first.standing.shape
    → StoresCase f.first.standing.shape.data_blocks
    (between (part b 0 (data_start f.first.standing.shape)) place (half_start f.first.standing.shape half + half_length f.first.standing.shape)) size c
    → IsHeardOf f.first.standing.shape (part b 0 (data_start f.first.standing.shape)) (half_start f.first.standing.shape half)
    (half_start f.first.standing.shape half + half_length f.first.standing.shape) place lines c

-- If there is no fault, and the archive's own front is read, each case of the archive is reported as whole.
abbrev pub EachSoundCaseIsWhole : Type 0
EachSoundCaseIsWhole =
    (b : List ℕ) (f : Found) (lines : List Line) → SeesCases b f → AreTold f lines → first_fault f ≡ None → f.mend ≡ None
    → (c : Case) → Contains f.first.standing.cases c → Contains lines (record { case = c; mark = Whole })

-- If there is a fault, a case that is reported as whole precedes the first fault, has a number below the first one that the fault makes
-- doubtful, and is deleted by no record that was read.
abbrev pub WhatIsToldWholeIsNotDeleted : Type 0
WhatIsToldWholeIsNotDeleted =
    (b : List ℕ) (f : Found) (lines : List Line) → SeesCases b f → AreTold f lines → first_fault f ≢ None
    → (c : Case) → Contains lines (record { case = c; mark = Whole })
    → HasCase f.first.standing.cases c × IsBelow f.doubts c.seq × (IsDeleted f.scan.drops.items c.seq → ⊥)

-- Nor by any Drop record of a half that reads by itself, whatever the records before it say, unless it lies within another or past the end
-- of the records.
abbrev pub NoRecordDeletesWhatIsToldWhole : Type 0
NoRecordDeletesWhatIsToldWhole =
    (b : List ℕ) (f : Found) (lines : List Line) → SeesCases b f → AreTold f lines → first_fault f ≢ None
    → (c : Case) → Contains lines (record { case = c; mark = Whole })
    → (half : Half) → was_open (slice_index (part b 0 (data_start f.first.standing.shape)) (half_start f.first.standing.shape half)) ≡ true
    → (k place size index : ℕ) → place ≡ half_start f.first.standing.shape half + 32 + 16 * k
    → place < half_start f.first.standing.shape half + half_length f.first.standing.shape
    → HasHead (between (part b 0 (data_start f.first.standing.shape)) place (half_start f.first.standing.shape half + half_length f.first.standing.shape)) size
    → IsDropBody (between (part b 0 (data_start f.first.standing.shape)) place (half_start f.first.standing.shape half + half_length f.first.standing.shape)) size
    → index < number_of (between (part b 0 (data_start f.first.standing.shape)) place (half_start f.first.standing.shape half + half_length f.first.standing.shape)) 8
    → number_of (between (part b 0 (data_start f.first.standing.shape)) place (half_start f.first.standing.shape half + half_length f.first.standing.shape)) (12 + 4 * index) ≡ c.seq
    → IsWithinOther f.first.standing.shape.data_blocks (part b 0 (data_start f.first.standing.shape)) (half_start f.first.standing.shape half + half_length f.first.standing.shape) place
    ⊎ IsPast f.first.standing.shape.data_blocks (part b 0 (data_start f.first.standing.shape)) (half_start f.first.standing.shape half)
    (half_start f.first.standing.shape half + half_length f.first.standing.shape) place

-- A case that is reported as whole has a number below the first one that the first fault makes doubtful.
abbrev pub WhatIsToldWholeIsBelow : Type 0
WhatIsToldWholeIsBelow =
    (b : List ℕ) (f : Found) (lines : List Line) → SeesCases b f → AreTold f lines → (t : Trouble) → trouble_by f.sight.fault f.sight.patch f.shut ≡ Some t
    → (c : Case) → Contains lines (record { case = c; mark = Whole })
    → (bound : ℕ) × IsBound f.first.standing.shape (part b 0 (data_start f.first.standing.shape)) t bound × (c.seq < bound)

-- And no Store record which reads by itself, from the first fault on, stores a case with its number, its name or a block of it, unless the
-- record lies within another or past the end of the records.
abbrev pub NoRecordContestsWhatIsToldWhole : Type 0
NoRecordContestsWhatIsToldWhole =
    (b : List ℕ) (f : Found) (lines : List Line) → SeesCases b f → AreTold f lines → (t : Trouble) → trouble_by f.sight.fault f.sight.patch f.shut ≡ Some t
    → (c : Case) → Contains lines (record { case = c; mark = Whole })
    → OfEachBehind f.first.standing.shape (part b 0 (data_start f.first.standing.shape)) t.gate (λ one. Contests one c → ⊥)

-- A case that is reported as lost is that of a Store record of the archive, which reads by itself at its place. Later records may have pinned
-- the case.
abbrev pub WhatIsToldLostIsStored : Type 0
WhatIsToldLostIsStored =
    (b : List ℕ) (f : Found) (lines : List Line) → SeesCases b f → AreTold f lines
    → (c : Case) (loss : Loss) (place : Option ℕ) → Contains lines (record { case = c; mark = Lost loss place })
    → (r : Read) × IsFrom f.first.standing.shape.data_blocks (part b 0 (data_start f.first.standing.shape)) r × (case_of r.entry ≡ c)

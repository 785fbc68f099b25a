-- Laws of the part of an archive that outlives a stop.
use Rattle.std.specs.Prelude.{◌≡◌, ◌⊎◌, ℕ, ◌<◌, ◌≤◌, ◌^◌, List, [], length, map}
use Rattle.std.specs.List.{All}
use Rattle.extents.specs.declared.run_list.Run.{Run}
use Rattle.extents.specs.Runs.{blocks_of, runs_of}
use Rattle.journal_layout.specs.Soundness.{IsLabel, Rise}
use Rattle.intake.specs.State.{runs_in}
use Rattle.intake.specs.Durable.{Durable, FoundCase, StandsFor}
use Rattle.intake.specs.Step.{MayHaveRuns}

-- bytes encode one archive at most
abbrev pub WhatStandsIsOne : Type 0
WhatStandsIsOne = (bytes : List ℕ) (x y : Durable) → StandsFor bytes x → StandsFor bytes y → x ≡ y

abbrev pub number_of : FoundCase → ℕ
number_of c = c.case.seq

-- The numbers of the cases: each is below the next one.
pub record HasNumbers (x : Durable) : Type 0 where
  pub below : All (λ (c : FoundCase). c.case.seq < x.next) x.cases
  pub rise : Rise 0 (map number_of x.cases)
  pub least : 1 ≤ x.next
  pub greatest : x.next ≤ 2 ^ 32

abbrev pub NumbersAreAbove : Type 0
NumbersAreAbove = (bytes : List ℕ) (x : Durable) → StandsFor bytes x → HasNumbers x

-- A case's image has its length, and lies in as many runs of blocks as one of that length may.
pub record IsWholeImage (c : FoundCase) : Type 0 where
  pub long : length c.image ≡ c.case.len
  pub runs : MayHaveRuns c.case.len (runs_in c.case)

abbrev pub ImagesAreWhole : Type 0
ImagesAreWhole = (bytes : List ℕ) (x : Durable) → StandsFor bytes x → All IsWholeImage x.cases

abbrev pub HasEmptyLabel : FoundCase → Type 0
HasEmptyLabel c = c.case.label ≡ []

-- There are two versions of the layout. Version 1 keeps no labels: in an archive of it no case has one. A label has 0 to 64 bytes.
pub record KeepsLabels (x : Durable) : Type 0 where
  pub version : (x.version ≡ 1) ⊎ (x.version ≡ 2)
  pub none : x.version ≡ 1 → All HasEmptyLabel x.cases
  pub labels : All (λ (c : FoundCase). IsLabel c.case.label) x.cases

abbrev pub LabelsAreOfVersionTwo : Type 0
LabelsAreOfVersionTwo = (bytes : List ℕ) (x : Durable) → StandsFor bytes x → KeepsLabels x

-- The runs that are kept of some blocks have these blocks, and no list of runs that has them is shorter.
abbrev pub RunsAreTheFewest : Type 0
RunsAreTheFewest = (blocks : List ℕ) → (blocks_of (runs_of blocks) ≡ blocks) × ((runs : List Run) → blocks_of runs ≡ blocks → length (runs_of blocks) ≤ length runs)

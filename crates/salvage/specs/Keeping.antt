-- The fate of the cases before the first fault.
use Rattle.std.specs.Prelude.{◌≡◌, ◌⊎◌, ◌<◌, List, ℕ, None}
use Rattle.std.specs.List.{Contains}
use Rattle.intake.specs.Blocks.{image_in}
use Rattle.journal_layout.specs.Case.{Case}
use Rattle.journal_layout.specs.Standing.{Standing}
use Rattle.journal_layout.specs.Stands.{Stands}
use Rattle.journal_layout.specs.declared.faults.OpenFault.{OpenFault}
use Rattle.salvage.specs.Records.{AreDrops, HasEachBut}
use Rattle.salvage.specs.declared.records.Dropped.{Dropped}
use Rattle.disk_model.specs.Places.{part}
use Rattle.journal_layout.specs.Layout.{data_start}
use Rattle.salvage.specs.Copying.{found_bytes}
use Rattle.salvage.specs.Finding.{StandsUntil}
use Rattle.salvage.specs.Readings.{SeesCases, first_fault}
use Rattle.salvage.specs.Shut.{shut_gate}
use Rattle.salvage.specs.declared.cases_found.Found.{Found}

-- the next number is greater than that of each case
abbrev pub AreGiven : Standing → Type 0
AreGiven s = (c : Case) → Contains s.cases c → c.seq < s.next

-- Of an archive's bytes others were made, as an archive stands that has each of these cases, with the same facts and the same blocks,
-- and the blocks hold the same images. A case is left out only if a Drop record of the archive names its number. The number of a case that
-- is there is not given again.
pub record KeepsCases (b c : List ℕ) (s : Standing) : Type 0 where
  pub drops : List Dropped
  pub dropped : AreDrops (part b 0 (data_start s.shape)) drops
  pub standing : Standing
  pub stands : Stands c standing
  pub shape : standing.shape ≡ s.shape
  pub each : (standing ≡ s) ⊎ HasEachBut drops standing.cases s.cases
  pub fresh : (standing ≡ s) ⊎ AreGiven standing
  pub images : (blocks : List ℕ) (len : ℕ) → image_in s.shape c blocks len ≡ image_in s.shape b blocks len

-- The cases that stand before the first bad record are kept in the copy, except those that a readable record deletes.
abbrev pub WhatStandsIsKept : Type 0
WhatStandsIsKept =
    (b : List ℕ) (f : Found) (s : Standing) (fault : OpenFault) → SeesCases b f → StandsUntil b s fault → KeepsCases b (found_bytes f b) s

-- The cases of an archive that opens are kept too, whether a gate of it is damaged or not.
abbrev pub WhatOpensIsKept : Type 0
WhatOpensIsKept = (b : List ℕ) (f : Found) (s : Standing) → SeesCases b f → Stands b s → KeepsCases b (found_bytes f b) s

-- If no gate is damaged, neither of a half nor after the records, the archive itself is copied, and no fault is reported.
abbrev pub WhatIsSoundIsCopied : Type 0
WhatIsSoundIsCopied =
    (b : List ℕ) (f : Found) (s : Standing) → SeesCases b f → Stands b s → shut_gate b s ≡ None
    → (found_bytes f b ≡ b) × (first_fault f ≡ None)

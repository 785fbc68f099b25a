-- The places of the images of several cases, and whether all of these are there.
use Rattle.std.specs.Prelude.{◌≡◌, ℕ, Bool, List, length, Result, Ok, Err}
use Rattle.std.specs.List.{AllByRecursion, list_all}
use Rattle.disk_model.specs.declared.disk.Disk as disk
use Rattle.intake.specs.Blocks.{image_in}
use Rattle.intake.specs.Calls.{OpenCall}
use Rattle.intake.specs.Parts.{Parts, state_of}
use Rattle.intake.specs.Ranges.{bytes_in}
use Rattle.intake.specs.State.{ArchiveState}
use Rattle.intake.specs.Step.{HasCase}
use Rattle.intake.specs.declared.faults.ArchiveFault.TheVariants.{OutOfMemory}
use Rattle.intake.specs.declared.ranges.ByteRange.{ByteRange}
use Rattle.journal_layout.specs.Case.{Case}
use Rattle.archive_files.specs.UnlockedFinding.{has_number}
use Rattle.archive_files.specs.declared.unlocked_faults.AskFault.{AskFault}
use Rattle.archive_files.specs.declared.unlocked_faults.AskFault.TheVariants as fault
use Rattle.archive_files.specs.declared.unlocked_places.Places.{Places}

-- the archive has a case of this number
abbrev pub IsThere : ArchiveState → ℕ → Type 0
IsThere s seq = (k : Case) × HasCase s seq k

-- its image is the same in both lists
abbrev pub IsSameIn : ArchiveState → List ℕ → List ℕ → ℕ → Type 0
IsSameIn s b c seq = (k : Case) → HasCase s seq k → image_in s.shape b k.blocks k.len ≡ image_in s.shape c k.blocks k.len

-- Cases that are there, and ranges in which their images lie, and nothing else.
pub record CoversCases {D : Type 0} (g : disk.Ghosts D) (a : Parts D) (numbers : List ℕ) (ranges : List ByteRange) : Type 0 where
  pub there : AllByRecursion (IsThere (state_of a)) numbers
  pub same : (b c : List ℕ) → length b ≡ g.size a.disk → length c ≡ g.size a.disk → AllByRecursion (IsSameIn (state_of a) b c) numbers → bytes_in b ranges ≡ bytes_in c ranges

-- the cases that a question may read, by an opening of a disk, or why not
abbrev pub FindsCases : {D : Type 0} → disk.Ghosts D → D → Result Places AskFault → Type 0
FindsCases {D} g before (Ok places) = (a : Parts D) × OpenCall g 0 before (Ok a) × CoversCases g a places.numbers.items places.ranges.items
FindsCases {D} g before (Err (fault.Open f)) = (after : D) × OpenCall g 0 before (Err (f, after))
FindsCases {D} g before (Err (fault.Archive f)) = (a : Parts D) × OpenCall g 0 before (Ok a) × (f ≡ OutOfMemory)
FindsCases g before (Err _) = ⊥

-- whether all cases of these numbers are there
abbrev pub FindsAll : {D : Type 0} → disk.Ghosts D → D → List ℕ → Result Bool AskFault → Type 0
FindsAll {D} g before numbers (Ok all) = (a : Parts D) × OpenCall g 0 before (Ok a) × (all ≡ list_all (has_number (state_of a)) numbers)
FindsAll {D} g before numbers (Err (fault.Reopen f)) = (after : D) × OpenCall g 0 before (Err (f, after))
FindsAll g before numbers (Err _) = ⊥

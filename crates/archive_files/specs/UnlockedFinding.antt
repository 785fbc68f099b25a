-- The place of a case's image, and whether the case is there, by an opening of a disk.
use Rattle.std.specs.Prelude.{◌≡◌, ℕ, Bool, false, is_some, Result, Ok, Err, Vec, if◌then◌else◌}
use Rattle.std.specs.Global.{Global}
use Rattle.disk_model.specs.declared.disk.Disk as disk
use Rattle.intake.specs.Calls.{OpenCall}
use Rattle.intake.specs.Parts.{Parts, state_of}
use Rattle.intake.specs.Ranges.{Locates, RangesReply}
use Rattle.intake.specs.State.{ArchiveState}
use Rattle.intake.specs.declared.ranges.ByteRange.{ByteRange}
use Rattle.journal_layout.specs.Soundness.{case_numbered}
use Rattle.archive_files.specs.declared.unlocked_faults.UnlockedFault.{UnlockedFault}
use Rattle.archive_files.specs.declared.unlocked_faults.UnlockedFault.TheVariants as fault

-- the places of the image of a case, or why they are not known
abbrev pub FindsPlaces : {D : Type 0} → disk.Ghosts D → D → ℕ → Result (Vec ByteRange Global) UnlockedFault → Type 0
FindsPlaces {D} g before seq (Ok ranges) = (a : Parts D) × OpenCall g 0 before (Ok a) × Locates g a seq ranges.items
FindsPlaces {D} g before seq (Err (fault.Open f)) = (after : D) × OpenCall g 0 before (Err (f, after))
FindsPlaces {D} g before seq (Err (fault.Archive f)) = (a : Parts D) × OpenCall g 0 before (Ok a) × RangesReply g a seq (Err f)
FindsPlaces g before seq (Err _) = ⊥

-- whether a case of this number is there
abbrev pub has_number : ArchiveState → ℕ → Bool
has_number s seq = if s.stopped then false else is_some (case_numbered seq s.cases)

abbrev pub FindsCase : {D : Type 0} → disk.Ghosts D → D → ℕ → Result Bool UnlockedFault → Type 0
FindsCase {D} g before seq (Ok there) = (a : Parts D) × OpenCall g 0 before (Ok a) × (there ≡ has_number (state_of a) seq)
FindsCase {D} g before seq (Err (fault.Reopen f)) = (after : D) × OpenCall g 0 before (Err (f, after))
FindsCase g before seq (Err _) = ⊥

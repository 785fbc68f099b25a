-- The fate of the other streams when a stream is refused.
use Rattle.std.specs.Prelude.{◌≡◌, Bool, true, false, List, Option}
use Rattle.intake.specs.declared.faults.ArchiveFault.{ArchiveFault}
use Rattle.intake.specs.declared.faults.ArchiveFault.TheVariants.{Disk}
use Rattle.intake.specs.Parts.{StreamParts}
use Rattle.intake.specs.Slots.{closed}

-- a disk fault stops the archive, and closes them all
abbrev pub EndsStreams : ArchiveFault → List (Option StreamParts) → Bool → List (Option StreamParts) → Type 0
EndsStreams Disk old stopped new = (stopped ≡ true) × (new ≡ closed old)
EndsStreams _ old stopped new = (stopped ≡ false) × (new ≡ old)

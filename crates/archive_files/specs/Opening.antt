-- Archives that can't be opened, as a look saw them.
use Rattle.std.specs.Prelude.{◌≡◌, Err}
use Rattle.disk_model.specs.declared.disk.Disk as disk
use Rattle.intake.specs.Calls.{OpenCall}
use Rattle.journal_layout.specs.declared.faults.OpenFault.{OpenFault}
use Rattle.shared_disk.specs.Looks.{LooksAnew, under}
use Rattle.shared_disk.specs.declared.shared.SharedDisk as shared
use Rattle.shared_disk.specs.declared.unlocked.Unlocked.{Unlocked}

-- the opening of the archive that the last look saw is refused with this fault
abbrev pub RefusesOpening : {S : Type 0} (g : shared.Ghosts S) → disk.Ghosts (Unlocked S g) → S → OpenFault → Type 0
RefusesOpening {S} g U s f = (d : Unlocked S g) × (under d ≡ s) × (after : Unlocked S g) × OpenCall U 0 d (Err (f, after))

-- the archive was looked at again, and the opening of the bytes that were seen then is refused with this fault
abbrev pub RefusesAgain : {S : Type 0} (g : shared.Ghosts S) → disk.Ghosts (Unlocked S g) → S → OpenFault → Type 0
RefusesAgain {S} g U s f = (t : S) × LooksAnew g s t × RefusesOpening g U t f

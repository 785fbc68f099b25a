-- An image that is copied between two looks at its disk.
use Rattle.std.specs.Prelude.{◌≡◌, ℕ, List, Option, Result, Ok, Err, IsTrue}
use Rattle.std.specs.Io.KnownBytes.{Appends}
use Rattle.disk_model.specs.declared.disk.Disk as disk
use Rattle.inspector_cli.specs.Copying.{CopiesImage}
use Rattle.inspector_cli.specs.declared.copying.CopyFault.{CopyFault}
use Rattle.intake.specs.Durable.{Durable, FoundCase, StandsFor}
use Rattle.intake.specs.InTurn.{last_state}
use Rattle.intake.specs.declared.faults.ArchiveFault.TheVariants.{NoCase, OutOfMemory}
use Rattle.journal_layout.specs.declared.shape.Shape.{Shape}
use Rattle.shared_disk.specs.Meanwhile.{EndsWith}
use Rattle.shared_disk.specs.Looks.{under}
use Rattle.shared_disk.specs.declared.shared.SharedDisk as shared
use Rattle.shared_disk.specs.declared.unlocked.Unlocked.{Unlocked}
use Rattle.archive_files.specs.History.{HoldsArchive, HasNone, HasOne, IsNumbered}
use Rattle.archive_files.specs.Opening.{RefusesAgain, RefusesOpening}
use Rattle.archive_files.specs.declared.unlocked_faults.UnlockedFault.{UnlockedFault}
use Rattle.archive_files.specs.declared.unlocked_faults.UnlockedFault.TheVariants as fault

-- a property that holds whenever the disk is honest and holds an archive all the time
abbrev pub Meanwhile : {S : Type 0} → shared.Ghosts S → S → (Durable → List Durable → Type 0) → Type 0
Meanwhile g s P = (shape : Shape) (x : Durable) (ys : List Durable) → IsTrue (g.is_honest s) → HoldsArchive g s shape x ys → P x ys

-- the image of a case of the archive that the last look saw is copied, as `copy_image` copies it
abbrev pub CopiesSeen : {S : Type 0} (g : shared.Ghosts S) → disk.Ghosts (Unlocked S g) → S → ℕ → Option (List ℕ) → Option (List ℕ) → ℕ → ℕ → Result (Unit {0}) CopyFault → Type 0
CopiesSeen {S} g U s seq start taken count failures r = (d : Unlocked S g) × (under d ≡ s) × (after : Unlocked S g) × CopiesImage U 0 seq d start taken count failures r after

-- The case's image is written, byte for byte, and the case was there all the time. Each refusal has its reason. If the case was gone at
-- the next look, or nobody can say, the bytes that were written may be no front of an image. If there was none at the last look, nothing is
-- written.
abbrev pub CopiesUnlocked : {S : Type 0} (g : shared.Ghosts S) → disk.Ghosts (Unlocked S g) → S → ℕ → Option (List ℕ) → Option (List ℕ) → ℕ → ℕ → Result (Unit {0}) UnlockedFault → Type 0
CopiesUnlocked g U s seq start taken count failures (Ok u) = Meanwhile g s (λ x ys. (c : FoundCase) × IsNumbered x seq c × Appends start taken c.image)
CopiesUnlocked g U s seq start taken count failures (Err (fault.Open f)) = (taken ≡ start) × (failures ≡ count) × RefusesOpening g U s f
CopiesUnlocked g U s seq start taken count failures (Err (fault.Archive NoCase)) = (taken ≡ start) × (failures ≡ count) × Meanwhile g s (λ x ys. HasNone x seq)
CopiesUnlocked g U s seq start taken count failures (Err (fault.Archive OutOfMemory)) = (taken ≡ start) × (failures ≡ count)
CopiesUnlocked g U s seq start taken count failures (Err (fault.Archive _)) = ⊥
CopiesUnlocked g U s seq start taken count failures (Err (fault.Copy f)) = CopiesSeen g U s seq start taken count failures (Err f)
CopiesUnlocked g U s seq start taken count failures (Err fault.Gone) = CopiesSeen g U s seq start taken count failures (Ok tt) × Meanwhile g s (λ x ys. HasNone (last_state x ys) seq)
CopiesUnlocked g U s seq start taken count failures (Err (fault.Look f)) = CopiesSeen g U s seq start taken count failures (Ok tt)
CopiesUnlocked g U s seq start taken count failures (Err (fault.Reopen f)) = CopiesSeen g U s seq start taken count failures (Ok tt) × RefusesAgain g U s f

-- The archive is looked at again: whether a case of this number is there by then, or why nobody can say.
abbrev pub LeavesThere : {S : Type 0} (g : shared.Ghosts S) → disk.Ghosts (Unlocked S g) → S → ℕ → Result (Unit {0}) UnlockedFault → Type 0
LeavesThere g U s seq (Ok u) = IsTrue (g.is_honest s) → (b : List ℕ) × EndsWith (g.meanwhile s) b × ((z : Durable) → StandsFor b z → HasOne z seq)
LeavesThere g U s seq (Err fault.Gone) = IsTrue (g.is_honest s) → (b : List ℕ) × EndsWith (g.meanwhile s) b × ((z : Durable) → StandsFor b z → HasNone z seq)
LeavesThere g U s seq (Err (fault.Look f)) = Unit {0}
LeavesThere g U s seq (Err (fault.Reopen f)) = RefusesAgain g U s f
LeavesThere g U s seq (Err _) = ⊥

-- The text of a check of the images that is done.
use Rattle.std.specs.Prelude.{◌≡◌, ◌⊎◌, ℕ, true, List, [], ◌∷◌, ◌++◌, length, Option, Ok, IsTrue, codes}
use Rattle.std.specs.Io.KnownBytes.{Appends}
use Rattle.disk_model.specs.declared.disk.Disk as disk
use Rattle.intake.specs.Durable.{Durable, FoundCase}
use Rattle.intake.specs.InTurn.{last_state}
use Rattle.intake.specs.declared.space.Space.{Space}
use Rattle.journal_layout.specs.declared.shape.Shape.{Shape}
use Rattle.shared_disk.specs.declared.shared.SharedDisk as shared
use Rattle.shared_disk.specs.declared.unlocked.Unlocked.{Unlocked}
use Rattle.archive_checks.specs.Texts.{facts_lines}
use Rattle.archive_checks.specs.Verdicts.{gone_line, image_line}
use Rattle.archive_files.specs.UnlockedChecks.{ChecksUnlocked}
use Rattle.archive_files.specs.History.{HasNone, HasOne, HoldsArchive}

-- The line of a case: the finding on its image, if the archive still has it, and else that it is gone.
abbrev pub IsLineOf : Durable → FoundCase → List ℕ → Type 0
IsLineOf last f line =
    (HasOne last f.case.seq × (line ≡ image_line f.case.seq f.case.origin.kind f.image)) ⊎ (HasNone last f.case.seq × (line ≡ gone_line f.case.seq))

-- one for each case, in order
abbrev pub AreLinesOf : Durable → List FoundCase → List ℕ → Type 0
AreLinesOf last [] lines = lines ≡ []
AreLinesOf last (f ∷ fs) lines = (one : List ℕ) × (rest : List ℕ) × (lines ≡ one ++ rest) × IsLineOf last f one × AreLinesOf last fs rest

-- the archive was x at the first look, and a check of its images is done
abbrev pub ChecksAreExact : {S : Type 0} (g : shared.Ghosts S) → disk.Ghosts (Unlocked S g) → Type 0
ChecksAreExact {S} g U =
    (s : S) (taken taken' : Option (List ℕ)) (lost lost' : ℕ) (shape : Shape) (x : Durable) (ys : List Durable) → IsTrue (g.is_honest s) → HoldsArchive g s shape x ys
    → ChecksUnlocked g U s true taken taken' lost lost' (Ok tt)
    → (space : Space) × (lines : List ℕ) × AreLinesOf (last_state x ys) x.cases lines × Appends taken taken' (facts_lines x.version (length x.cases) space ++ (lines ++ codes "sound\n"))

-- Findings on images that are read while others may change them.
use Rattle.std.specs.Prelude.{◌≡◌, ℕ, true, List, [], ◌∷◌, IsTrue}
use Rattle.disk_model.specs.declared.disk.Disk as disk
use Rattle.intake.specs.Parts.{Parts}
use Rattle.intake.specs.Ranges.{Locates, bytes_in}
use Rattle.intake.specs.declared.ranges.ByteRange.{ByteRange}
use Rattle.journal_layout.specs.Case.{Case}
use Rattle.shared_disk.specs.Steady.{are_steady}
use Rattle.shared_disk.specs.declared.shared.SharedDisk as shared
use Rattle.archive_checks.specs.Verdicts.{verdict_of}
use Rattle.archive_checks.specs.declared.verdict.Verdict.{Verdict}
use Rattle.archive_files.specs.declared.unlocked_images.SeenCase.{SeenCase}

-- If nobody changes the bytes of a case's image meanwhile, this is the finding on them.
pub record IsRead {S : Type 0} {D : Type 0} (g : shared.Ghosts S) (U : disk.Ghosts D) (s : S) (a : Parts D) (seq : ℕ) (verdict : Verdict) : Type 0 where
  pub ranges : List ByteRange
  pub locates : Locates U a seq ranges
  pub is : IsTrue (g.is_honest s) → are_steady ranges (g.looked s) (g.meanwhile s) ≡ true → verdict ≡ verdict_of locates.found.origin.kind (bytes_in (g.looked s) ranges)

-- the cases, each with the finding on its image
abbrev pub AreSeen : (ℕ → Verdict → Type 0) → List Case → List SeenCase → Type 0
AreSeen P [] [] = Unit {0}
AreSeen P (c ∷ cs) (v ∷ vs) = (v.seq ≡ c.seq) × P c.seq v.verdict × AreSeen P cs vs
AreSeen P _ _ = ⊥

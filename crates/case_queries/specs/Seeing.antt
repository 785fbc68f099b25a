-- The image of a case, as the lines that ask it see it.
use Rattle.std.specs.Prelude.{◌≡◌, ◌≢◌, ℕ, Bool, true, List, length, take, Option, None, Some, Result, Ok, Err, IsTrue, Vec}
use Rattle.std.specs.Global.{Global}
use Rattle.disk_model.specs.declared.disk.Disk as disk
use Rattle.case_journal.specs.Viewing.{OnlyReads}
use Rattle.intake.specs.Calls.{ChangesNoCase, HasDiskCause}
use Rattle.intake.specs.Contents.{ImageBytes, image_at}
use Rattle.intake.specs.Parts.{Parts, state_of, contents_of}
use Rattle.intake.specs.Step.{ImageStep}
use Rattle.intake.specs.Untouched.{RefusalSpares}
use Rattle.intake.specs.declared.faults.ArchiveFault.{ArchiveFault}
use Rattle.intake.specs.declared.faults.ArchiveFault.TheVariants.{OutOfMemory}
use Rattle.case_queries.specs.declared.kept_image.KeptImage.{KeptImage}
use Rattle.journal_layout.specs.Soundness.{case_numbered}
use Rattle.journal_layout.specs.Case.{Case}

-- These are the bytes of a live case of this number: on an honest disk those of its image, on any disk as many as it has.
pub record AreOfCase {D : Type 0} (g : disk.Ghosts D) (a : Parts D) (seq : ℕ) (image : List ℕ) : Type 0 where
  pub bytes : IsTrue (g.is_honest a.disk) → image_at seq (state_of a).cases (contents_of g.seen a).images ≡ Some image
  pub long : (c : Case) → case_numbered seq (state_of a).cases ≡ Some c → length image ≡ c.len

-- The image of a case is seen, whether it is read now or was kept since an earlier read: the archive shows the same as before, and a crash
-- leaves the same as before.
pub record SeesImage {D : Type 0} (g : disk.Ghosts D) (old : Parts D) (seq : ℕ) (image : List ℕ) (new : Parts D) : Type 0 where
  pub own : AreOfCase g old seq image
  pub state : state_of new ≡ state_of old
  pub contents : IsTrue (g.is_honest old.disk) → contents_of g.seen new ≡ contents_of g.seen old
  -- no byte of the disk is written
  pub quiet : OnlyReads g old.disk new.disk
  pub stays : ChangesNoCase g old new

-- The image of a case can't be seen, for a reason that `image` has. If there is no memory for it, some of it may have been read.
pub record CannotSee {D : Type 0} (g : disk.Ghosts D) (old : Parts D) (seq : ℕ) (f : ArchiveFault) (new : Parts D) : Type 0 where
  pub step : ImageStep {T = Vec ℕ Global} (state_of old) seq (Err f) (state_of new)
  pub bytes : IsTrue (g.is_honest old.disk) → ImageBytes {Z = Global} (state_of old) (contents_of g.seen old) seq (Err f) (contents_of g.seen new)
  pub cause : HasDiskCause {T = Vec ℕ Global} g old (Err f) new
  -- no byte of the disk is written
  pub quiet : OnlyReads g old.disk new.disk
  pub stays : ChangesNoCase g old new
  pub untouched : f ≢ OutOfMemory → RefusalSpares {T = Vec ℕ Global} (Err f) old.disk new.disk

-- it is seen, or why it can't be read
abbrev pub LooksAt : {D : Type 0} → disk.Ghosts D → Parts D → ℕ → Result (List ℕ) ArchiveFault → Parts D → Type 0
LooksAt g old seq (Ok image) new = SeesImage g old seq image new
LooksAt g old seq (Err f) new = CannotSee g old seq f new

-- the bytes that are kept, if any are
abbrev pub image_held : Result KeptImage ArchiveFault → Result (List ℕ) ArchiveFault
image_held (Ok k) = Ok k.image.items
image_held (Err f) = Err f

-- These bytes are the image of a case of this number, or its first bytes.
abbrev pub HoldsFront : {D : Type 0} → disk.Ghosts D → Parts D → ℕ → Bool → List ℕ → Type 0
HoldsFront g a seq is_whole bytes =
    (image : List ℕ) × AreOfCase g a seq image × (bytes ≡ take (length bytes) image) × (is_whole ≡ true → bytes ≡ image)

-- the kept bytes of an image are those of its case's image
abbrev pub IsKept : {D : Type 0} → disk.Ghosts D → Parts D → Option KeptImage → Type 0
IsKept g a None = Unit {0}
IsKept g a (Some k) = HoldsFront g a k.seq k.is_whole k.image.items

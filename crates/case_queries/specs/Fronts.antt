-- The first bytes of an image, for the lines that ask no more of it.
use Rattle.std.specs.Prelude.{◌≡◌, ◌≤◌, ◌⊎◌, ℕ, ◌-◌, ◌++◌, List, length, min, take, Some, Result, Ok, Err, IsTrue, Vec}
use Rattle.std.specs.Global.{Global}
use Rattle.case_journal.specs.Viewing.{OnlyReads}
use Rattle.disk_model.specs.declared.disk.Disk as disk
use Rattle.elf_view.specs.Sound.{IsHeaderWhole, IsSound}
use Rattle.elf_view.specs.declared.faults.Want.{Want}
use Rattle.elf_view.specs.declared.faults.Want.TheVariants.{Core}
use Rattle.intake.specs.Calls.{ChangesNoCase}
use Rattle.intake.specs.Contents.{image_at}
use Rattle.intake.specs.Part.{PartCall}
use Rattle.intake.specs.Parts.{Parts, state_of, contents_of}
use Rattle.intake.specs.State.{ArchiveState}
use Rattle.intake.specs.Step.{HasCase}
use Rattle.intake.specs.declared.faults.ArchiveFault.{ArchiveFault}
use Rattle.intake.specs.declared.faults.ArchiveFault.TheVariants.{OutOfMemory}
use Rattle.journal_layout.specs.Soundness.{case_numbered}
use Rattle.journal_layout.specs.Case.{Case}
use Rattle.journal_layout.specs.declared.entry.Kind.{Kind}
use Rattle.script_lines.specs.declared.query.ImageQuery.{ImageQuery}
use Rattle.script_lines.specs.declared.query.ImageQuery.TheVariants.{Header}
use Rattle.case_queries.specs.Inspecting.{want_of}
use Rattle.case_queries.specs.Seeing.{LooksAt, SeesImage}
use Rattle.case_queries.specs.declared.kept_image.KeptImage.{KeptImage}

-- the kind of image that the first bytes must be sound as, for a line
abbrev pub front_want : Kind → ImageQuery → Want
front_want kind Header = want_of kind
front_want kind _ = Core

-- bytes that are sound as an image of their own
abbrev pub IsSoundFront : Want → List ℕ → Type 0
IsSoundFront want front = IsHeaderWhole front × IsSound want front

-- These bytes are the image, or its first bytes, and sound.
abbrev pub IsEnough : Want → List ℕ → List ℕ → Type 0
IsEnough want front image = (front ≡ image) ⊎ ((front ≡ take (length front) image) × IsSoundFront want front)

-- the image of a case is seen by bytes that are enough, or why it can't be read
abbrev pub SeesEnough : {D : Type 0} → disk.Ghosts D → Parts D → ℕ → Want → Result KeptImage ArchiveFault → Parts D → Type 0
SeesEnough g old seq want (Ok k) new = (image : List ℕ) × SeesImage g old seq image new × IsEnough want k.image.items image
SeesEnough g old seq want (Err f) new = LooksAt g old seq (Err f) new

-- The same if they are read of an image of this size: they are 65,536 at least, or all.
abbrev pub ReadsEnough : {D : Type 0} → disk.Ghosts D → Parts D → ℕ → Want → ℕ → Result (Vec ℕ Global) ArchiveFault → Parts D → Type 0
ReadsEnough g old seq want size (Ok v) new =
    (image : List ℕ) × SeesImage g old seq image new × (v.items ≡ take (length v.items) image) × (length image ≡ size)
    × ((length v.items ≡ size) ⊎ IsSoundFront want v.items) × (min size 65536 ≤ length v.items)
ReadsEnough g old seq want size (Err f) new = LooksAt g old seq (Err f) new

-- a case of this number has an image of this size
abbrev pub HasSize : ArchiveState → ℕ → ℕ → Type 0
HasSize s seq size = (c : Case) × HasCase s seq c × (c.len ≡ size)

-- The bytes of an image up to place `end`, of which these are read; or why the others are not. If there is no memory for them, none is
-- asked for.
abbrev pub ReadsUpTo : {D : Type 0} → disk.Ghosts D → Parts D → ℕ → List ℕ → ℕ → Result (Unit {0}) ArchiveFault → List ℕ → Parts D → Type 0
ReadsUpTo g old seq front end (Ok u) front' new =
    (bytes : List ℕ) × PartCall g old seq (length front) (end - length front) (Ok u) bytes new × (front' ≡ front ++ bytes)
ReadsUpTo g old seq front end (Err f) front' new =
    ((f ≡ OutOfMemory) × (new ≡ old)) ⊎ ((bytes : List ℕ) × PartCall g old seq (length front) (end - length front) (Err f) bytes new)

-- The first bytes of the image of a case are read: the archive shows the same as before, and a crash leaves the same as before.
pub record ReadsFront {D : Type 0} (g : disk.Ghosts D) (old : Parts D) (seq : ℕ) (front : List ℕ) (new : Parts D) : Type 0 where
  pub own : IsTrue (g.is_honest old.disk)
      → (image : List ℕ) × (image_at seq (state_of old).cases (contents_of g.seen old).images ≡ Some image) × (front ≡ take (length front) image)
      × ((c : Case) → case_numbered seq (state_of old).cases ≡ Some c → length image ≡ c.len)
  pub state : state_of new ≡ state_of old
  pub contents : IsTrue (g.is_honest old.disk) → contents_of g.seen new ≡ contents_of g.seen old
  pub quiet : OnlyReads g old.disk new.disk
  pub stays : ChangesNoCase g old new

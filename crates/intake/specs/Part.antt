-- Some bytes of a case's image, read into memory that the caller has.
use Rattle.std.specs.Prelude.{◌≡◌, ◌≢◌, ℕ, List, length, Some, Result, Ok, Err, IsTrue}
use Rattle.disk_model.specs.Places.{part}
use Rattle.disk_model.specs.declared.disk.Disk as disk
use Rattle.case_journal.specs.Viewing.{OnlyReads}
use Rattle.intake.specs.Calls.{ChangesNoCase, HasDiskCause}
use Rattle.intake.specs.Contents.{Contents, UnmovedBytes, image_at}
use Rattle.intake.specs.Parts.{Parts, state_of, contents_of}
use Rattle.intake.specs.State.{ArchiveState}
use Rattle.intake.specs.Step.{ImageStep}
use Rattle.intake.specs.Untouched.{RefusalSpares}
use Rattle.intake.specs.declared.faults.ArchiveFault.{ArchiveFault}
use Rattle.intake.specs.declared.faults.ArchiveFault.TheVariants.{OutOfMemory}
use Rattle.journal_layout.specs.Soundness.{case_numbered}
use Rattle.journal_layout.specs.Case.{Case}

-- the n bytes from place at on are those of the case's image, and no bytes change
abbrev pub PartBytes : ArchiveState → Contents → ℕ → ℕ → ℕ → Result (Unit {0}) ArchiveFault → List ℕ → Contents → Type 0
PartBytes s old seq at n (Ok u) into new =
    (image : List ℕ) × (image_at seq s.cases old.images ≡ Some image) × (into ≡ part image at n)
    × ((c : Case) → case_numbered seq s.cases ≡ Some c → length image ≡ c.len) × (new ≡ old)
PartBytes s old seq at n (Err f) into new = UnmovedBytes old f new

-- image_part: n bytes of a case's image from place at on, or why they can't be read
pub record PartCall {D : Type 0} (g : disk.Ghosts D) (old : Parts D) (seq at n : ℕ) (r : Result (Unit {0}) ArchiveFault) (into : List ℕ) (new : Parts D) : Type 0 where
  pub step : ImageStep {T = Unit {0}} (state_of old) seq r (state_of new)
  pub bytes : IsTrue (g.is_honest old.disk) → PartBytes (state_of old) (contents_of g.seen old) seq at n r into (contents_of g.seen new)
  pub count : length into ≡ n
  -- it takes no memory
  pub never : r ≢ Err OutOfMemory
  pub cause : HasDiskCause g old r new
  pub quiet : OnlyReads g old.disk new.disk
  pub stays : ChangesNoCase g old new
  pub untouched : RefusalSpares {T = Unit {0}} r old.disk new.disk

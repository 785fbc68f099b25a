-- An image, piece by piece, out of its archive.
use Rattle.std.specs.Prelude.{◌≡◌, true, ℕ, ◌≤◌, ◌<◌, List, ◌++◌, length, Option, Some, Result, Ok, Err, IsTrue, Vec}
use Rattle.std.specs.Global.{Global}
use Rattle.std.specs.Io.KnownBytes.{Appends}
use Rattle.disk_model.specs.Disk.{HasRisen}
use Rattle.disk_model.specs.declared.disk.Disk as disk
use Rattle.case_journal.specs.Viewing.{OnlyReads}
use Rattle.intake.specs.Contents.{image_at}
use Rattle.intake.specs.Parts.{Parts, state_of, contents_of}
use Rattle.intake.specs.Ranges.{Locates, RangesReply}
use Rattle.intake.specs.Step.{HasCase}
use Rattle.intake.specs.declared.faults.ArchiveFault.{ArchiveFault}
use Rattle.intake.specs.declared.ranges.ByteRange.{ByteRange}
use Rattle.script_streams.specs.Replies.{Printing, PrintsText}
use Rattle.inspector_cli.specs.declared.copying.CopyFault.{CopyFault}
use Rattle.inspector_cli.specs.declared.copying.CopyFault.TheVariants as fault
use Rattle.inspector_cli.specs.declared.copying.Halt.{Halt}
use Rattle.inspector_cli.specs.declared.copying.Halt.TheVariants.{Disk, Output}
use Rattle.inspector_cli.specs.Life.{OpensThen, IsOpeningRefused}
use Rattle.journal_layout.specs.Case.{Case}

-- the whole, or a front of it if a copy was ended before
abbrev pub IsFrontOf : {E : Type 0} → Result (Unit {0}) E → List ℕ → List ℕ → Type 0
IsFrontOf (Ok u) text whole = text ≡ whole
IsFrontOf (Err f) text whole = (rest : List ℕ) × (text ++ rest ≡ whole)

-- A text is read from a disk, which is only read, and printed: on an
-- honest disk the one that `whole` makes of its bytes, or a front of that.
pub record Copies {D : Type 0} (g : disk.Ghosts D) (old new : D) (t : Printing) (whole : List ℕ → List ℕ) (r : Result (Unit {0}) Halt) : Type 0 where
  pub text : List ℕ
  pub told : PrintsText t text
  pub front : IsTrue (g.is_honest old) → IsFrontOf r text (whole (g.seen old))
  pub quiet : OnlyReads g old new
  pub later : g.failures old ≤ g.failures new
  pub cause : r ≡ Err Disk → HasRisen (g.failures old) (g.failures new)
  pub blamed : r ≡ Err Output → t.after.unwritten.failed ≡ true

-- The same, and the output has taken it.
pub record WritesOut {D : Type 0} (g : disk.Ghosts D) (old new : D) (start taken : Option (List ℕ)) (count failures : ℕ) (whole : List ℕ → List ℕ) (r : Result (Unit {0}) Halt) : Type 0 where
  pub text : List ℕ
  pub appended : Appends start taken text
  pub front : IsTrue (g.is_honest old) → IsFrontOf r text (whole (g.seen old))
  pub quiet : OnlyReads g old new
  pub later : g.failures old ≤ g.failures new
  pub cause : r ≡ Err Disk → HasRisen (g.failures old) (g.failures new)
  pub lost : r ≡ Err Output → HasRisen count failures

-- the place of an image, and some memory for its pieces, or why it is not known
abbrev pub HasPlace : {D : Type 0} → disk.Ghosts D → Parts D → ℕ → Result (Vec ByteRange Global × Vec ℕ Global) ArchiveFault → Type 0
HasPlace g a seq (Ok place) = Locates g a seq place.0.items × (0 < length place.1.items)
HasPlace g a seq (Err f) = RangesReply g a seq (Err f)

-- the reason why a copy ended, as it is reported
abbrev pub fault_of : Halt → CopyFault
fault_of Disk = fault.Disk
fault_of Output = fault.Output

-- The image of a case of an archive is written to an output, or a front of it until the disk or the output failed. The disk is only read: a
-- crash at any moment leaves only disks that one before could have left.
pub record CopiesCase {D : Type 0} (g : disk.Ghosts D) (seq : ℕ) (start taken : Option (List ℕ)) (count failures : ℕ) (archive : Parts D) (r : Result (Unit {0}) CopyFault) (after : D) : Type 0 where
  pub found : Case
  pub has : HasCase (state_of archive) seq found
  pub text : List ℕ
  pub appended : Appends start taken text
  pub front : IsTrue (g.is_honest archive.disk)
      → (image : List ℕ) × (image_at seq (state_of archive).cases (contents_of g.seen archive).images ≡ Some image) × IsFrontOf r text image
  pub quiet : OnlyReads g archive.disk after
  pub later : g.failures archive.disk ≤ g.failures after
  pub cause : r ≡ Err fault.Disk → HasRisen (g.failures archive.disk) (g.failures after)
  pub lost : r ≡ Err fault.Output → HasRisen count failures

-- the same, or why nothing of it was written
abbrev pub CopyEnds : {D : Type 0} → disk.Ghosts D → ℕ → Option (List ℕ) → Option (List ℕ) → ℕ → ℕ → Parts D → Result (Unit {0}) CopyFault → D → Type 0
CopyEnds g seq start taken count failures archive (Ok u) after = CopiesCase g seq start taken count failures archive (Ok u) after
CopyEnds g seq start taken count failures archive (Err (fault.Open f)) after = ⊥
CopyEnds g seq start taken count failures archive (Err (fault.Archive f)) after =
    RangesReply g archive seq (Err f) × (taken ≡ start) × (failures ≡ count) × (after ≡ archive.disk)
CopyEnds g seq start taken count failures archive (Err fault.Disk) after = CopiesCase g seq start taken count failures archive (Err fault.Disk) after
CopyEnds g seq start taken count failures archive (Err fault.Output) after = CopiesCase g seq start taken count failures archive (Err fault.Output) after

-- An archive is opened, and an image of it copied, or why not.
abbrev pub CopiesImage : {D : Type 0} → disk.Ghosts D → ℕ → ℕ → D → Option (List ℕ) → Option (List ℕ) → ℕ → ℕ → Result (Unit {0}) CopyFault → D → Type 0
CopiesImage g limit seq before start taken count failures (Err (fault.Open f)) after =
    IsOpeningRefused g limit before after f × (taken ≡ start) × (failures ≡ count)
CopiesImage g limit seq before start taken count failures r after =
    OpensThen g limit before after (λ opened closed. CopyEnds g seq start taken count failures opened r closed.disk)

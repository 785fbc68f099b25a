-- The ranges of the disk that have the bytes of an image.
use Rattle.std.specs.Prelude.{◌≡◌, ℕ, ◌+◌, ◌-◌, ◌*◌, ◌≤◌, min, IsTrue, false, true, List, length, take, sum_by, None, Some, Result, Ok, Err, Vec}
use Rattle.std.specs.Global.{Global}
use Rattle.std.specs.List.{All, flat_map}
use Rattle.disk_model.specs.Places.{part}
use Rattle.disk_model.specs.declared.disk.Disk as disk
use Rattle.extents.specs.Runs.{blocks_of}
use Rattle.extents.specs.declared.run_list.Run.{Run}
use Rattle.journal_layout.specs.Soundness.{case_numbered}
use Rattle.journal_layout.specs.Case.{Case}
use Rattle.journal_layout.specs.declared.shape.Shape.{Shape}
use Rattle.journal_layout.specs.Layout.{disk_length}
use Rattle.intake.specs.Blocks.{block_start, image_in, joined}
use Rattle.intake.specs.Contents.{image_at}
use Rattle.intake.specs.Parts.{Parts, state_of, contents_of}
use Rattle.intake.specs.Step.{HasCase}
use Rattle.intake.specs.declared.faults.ArchiveFault.{ArchiveFault}
use Rattle.intake.specs.declared.faults.ArchiveFault.TheVariants.{Stopped, NoCase, OutOfMemory}
use Rattle.intake.specs.declared.ranges.ByteRange.{ByteRange}

-- the bytes of these ranges, one range after another
abbrev pub bytes_in : List ℕ → List ByteRange → List ℕ
bytes_in bytes ranges = flat_map (λ (r : ByteRange). part bytes r.start r.length) ranges

-- how many they are
abbrev pub count_in : List ByteRange → ℕ
count_in ranges = sum_by (λ (r : ByteRange). r.length) ranges

-- the ranges lie among the first n bytes
abbrev pub AreWithin : ℕ → List ByteRange → Type 0
AreWithin n ranges = All (λ (r : ByteRange). r.start + r.length ≤ n) ranges

-- the bytes of a run, or the first `most` of them
abbrev pub IsFrontOfRun : Shape → Run → ℕ → ByteRange → Type 0
IsFrontOfRun shape run most range = (range.start ≡ block_start shape run.start) × (range.length ≡ min most (4096 * run.count))

-- Ranges of the bytes of these runs, or of the first `len` of them, on any disk of this shape.
pub record CoversRuns (shape : Shape) (runs : List Run) (len : ℕ) (ranges : List ByteRange) : Type 0 where
  pub within : AreWithin (disk_length shape) ranges
  pub bytes : (b : List ℕ) → length b ≡ disk_length shape → bytes_in b ranges ≡ take len (joined shape b (blocks_of runs))
  pub count : count_in ranges + (len - 4096 * length (blocks_of runs)) ≡ len

-- The ranges of the image of a case: on an honest disk these bytes are the image, on any disk they are as many.
pub record Locates {D : Type 0} (g : disk.Ghosts D) (a : Parts D) (seq : ℕ) (ranges : List ByteRange) : Type 0 where
  pub found : Case
  pub has : HasCase (state_of a) seq found
  pub within : AreWithin (g.size a.disk) ranges
  pub count : count_in ranges ≡ found.len
  pub bytes : IsTrue (g.is_honest a.disk) → image_at seq (state_of a).cases (contents_of g.seen a).images ≡ Some (bytes_in (g.seen a.disk) ranges)
  -- whatever bytes there are, these are the ones of the case's blocks
  pub places : (b : List ℕ) → length b ≡ g.size a.disk → bytes_in b ranges ≡ image_in (state_of a).shape b found.blocks found.len

-- the ranges of a case's image, or the refusal
abbrev pub RangesReply : {D : Type 0} → disk.Ghosts D → Parts D → ℕ → Result (Vec ByteRange Global) ArchiveFault → Type 0
RangesReply g a seq (Ok ranges) = Locates g a seq ranges.items
RangesReply g a seq (Err Stopped) = a.stopped ≡ true
RangesReply g a seq (Err NoCase) = (a.stopped ≡ false) × (case_numbered seq (state_of a).cases ≡ None)
RangesReply g a seq (Err OutOfMemory) = (c : Case) × HasCase (state_of a) seq c
RangesReply g a seq (Err _) = ⊥

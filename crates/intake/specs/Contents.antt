-- The bytes that an archive holds: an image for each case, and for each
-- stream the bytes that it has taken and the free bytes that are lent next.
use Rattle.std.specs.Prelude.{◌≡◌, ℕ, List, [], ◌∷◌, ◌++◌, Option, None, Some, Result, Ok, Err, take, drop, replicate, slice_set, if◌then◌else◌}
use Rattle.std.specs.Prelude.{Vec, ◌==◌}
use Rattle.journal_layout.specs.Case.{Case}
use Rattle.journal_layout.specs.Folding.{is_among}
use Rattle.retention.specs.declared.Decision.{Decision}
use Rattle.intake.specs.State.{ArchiveState}
use Rattle.intake.specs.Slots.{stream_at, closed}
use Rattle.intake.specs.declared.faults.ArchiveFault.{ArchiveFault}
use Rattle.intake.specs.declared.faults.ArchiveFault.TheVariants.{Stopped, NoStream, Disk}

pub record Taken : Type 0 where
  -- the bytes taken, in order
  pub bytes : List ℕ
  -- the free part of the block that is filled: the bytes in it now
  pub free : List ℕ

pub record Contents : Type 0 where
  -- of the cases, in their order
  pub images : List (List ℕ)
  -- by slot
  pub taken : List (Option Taken)

-- a block of zeros
unfoldable pub zero_block : List ℕ
zero_block = replicate 4096 0

-- a new stream has no bytes and a block of zeros to fill
abbrev pub empty_taken : Taken
empty_taken = record { bytes = []; free = zero_block }

-- the next free part: after a full block, a block of zeros
abbrev pub next_free : List ℕ → List ℕ
next_free [] = zero_block
next_free (x ∷ xs) = x ∷ xs

-- the first n bytes of the free part, as they are, go to the end of the bytes
abbrev pub advanced : ℕ → Taken → Taken
advanced n t = record { bytes = t.bytes ++ take n t.free; free = next_free (drop n t.free) }

-- the same contents with this in a slot
abbrev pub with_taken : Contents → ℕ → Option Taken → Contents
with_taken c slot o = record c { taken = slice_set c.taken slot o }

-- no stream has taken anything
abbrev pub without_streams : Contents → Contents
without_streams c = record c { taken = closed c.taken }

-- The bytes at each call's end. A refusal leaves them, unless it drops the stream or the disk failed.
abbrev pub BeginBytes : Contents → ℕ → Result (Unit {0}) ArchiveFault → Contents → Type 0
BeginBytes old slot (Ok u) new = new ≡ with_taken old slot (Some empty_taken)
BeginBytes old slot (Err f) new = new ≡ old

-- the bytes of all streams after a call on one slot was refused
abbrev pub RefusedBytes : Contents → ℕ → ArchiveFault → Contents → Type 0
RefusedBytes old slot Stopped new = new ≡ old
RefusedBytes old slot NoStream new = new ≡ old
RefusedBytes old slot Disk new = new ≡ without_streams old
RefusedBytes old slot _ new = new ≡ with_taken old slot None

abbrev pub AdvanceBytes : Contents → ℕ → ℕ → Result (Unit {0}) ArchiveFault → Contents → Type 0
AdvanceBytes old slot n (Ok u) new =
    (t : Taken) × (stream_at old.taken slot ≡ Some t) × (new ≡ with_taken old slot (Some (advanced n t)))
AdvanceBytes old slot n (Err f) new = RefusedBytes old slot f new

-- the stream's bytes become the last image
abbrev pub FinishBytes : Contents → ℕ → Result ℕ ArchiveFault → Contents → Type 0
FinishBytes old slot (Ok seq) new =
    (t : Taken) × (stream_at old.taken slot ≡ Some t)
    × (new ≡ record { images = old.images ++ t.bytes ∷ []; taken = slice_set old.taken slot None })
FinishBytes old slot (Err f) new = RefusedBytes old slot f new

abbrev pub AbandonBytes : Contents → ℕ → Result (Unit {0}) ArchiveFault → Contents → Type 0
AbandonBytes old slot (Ok u) new = new ≡ with_taken old slot None
AbandonBytes old slot (Err f) new = new ≡ old

-- the bytes after a refusal that belongs to no stream: only a disk fault drops the streams
abbrev pub UnmovedBytes : Contents → ArchiveFault → Contents → Type 0
UnmovedBytes old Disk new = new ≡ without_streams old
UnmovedBytes old _ new = new ≡ old

abbrev pub PinBytes : Contents → Result (Unit {0}) ArchiveFault → Contents → Type 0
PinBytes old (Ok u) new = new ≡ old
PinBytes old (Err f) new = UnmovedBytes old f new

-- a label is no byte of an image
abbrev pub LabelBytes : Contents → Result (Unit {0}) ArchiveFault → Contents → Type 0
LabelBytes old (Ok u) new = new ≡ old
LabelBytes old (Err f) new = UnmovedBytes old f new

-- the version of the layout is no byte of an image either
abbrev pub UpgradeBytes : Contents → Result (Unit {0}) ArchiveFault → Contents → Type 0
UpgradeBytes old (Ok u) new = new ≡ old
UpgradeBytes old (Err f) new = UnmovedBytes old f new

-- the images of the cases that have none of these numbers
abbrev pub images_without : List ℕ → List Case → List (List ℕ) → List (List ℕ)
images_without seqs [] images = []
images_without seqs (c ∷ cases) [] = []
images_without seqs (c ∷ cases) (image ∷ images) =
    if is_among seqs c.seq then images_without seqs cases images else image ∷ images_without seqs cases images

-- the cases of these numbers go with their images
abbrev pub DropBytes : ArchiveState → Contents → List ℕ → Result (Unit {0}) ArchiveFault → Contents → Type 0
DropBytes s old seqs (Ok u) new = new ≡ record old { images = images_without seqs s.cases old.images }
DropBytes s old seqs (Err f) new = UnmovedBytes old f new

abbrev pub DeleteBytes : ArchiveState → Contents → ℕ → Result (Unit {0}) ArchiveFault → Contents → Type 0
DeleteBytes s old seq r new = DropBytes s old (seq ∷ []) r new

abbrev pub RetireBytes : ArchiveState → Contents → Result Decision ArchiveFault → Contents → Type 0
RetireBytes s old (Ok d) new = DropBytes s old d.dropped.items (Ok tt) new
RetireBytes s old (Err f) new = UnmovedBytes old f new

-- the image of the case of this number, of these cases and their images
abbrev pub image_at : ℕ → List Case → List (List ℕ) → Option (List ℕ)
image_at seq [] images = None
image_at seq (c ∷ cases) [] = None
image_at seq (c ∷ cases) (image ∷ images) = if c.seq == seq then Some image else image_at seq cases images

-- the bytes that are answered are those of the case, and no bytes change
abbrev pub ImageBytes : {Z : Type 0} → ArchiveState → Contents → ℕ → Result (Vec ℕ Z) ArchiveFault → Contents → Type 0
ImageBytes s old seq (Ok image) new = (image_at seq s.cases old.images ≡ Some image.items) × (new ≡ old)
ImageBytes s old seq (Err f) new = UnmovedBytes old f new

-- The part of an image that is seen for a line over a core's memory: its first bytes, and a part that has the bytes for the reply.
use Rattle.std.specs.Prelude.{◌≡◌, ℕ, ◌+◌, ◌-◌, ◌≤◌, false, List, ◌++◌, length, OnOk, Option, None, Some, Result, Ok, Err}
use Rattle.disk_model.specs.declared.disk.Disk as disk
use Rattle.elf_view.specs.Field.{part}
use Rattle.elf_view.specs.Header.{segments_of}
use Rattle.elf_view.specs.declared.faults.Want.TheVariants.{Core}
use Rattle.address_space.specs.Whole.{AreHeldWithin, IsFrontOf}
use Rattle.intake.specs.Part.{PartCall}
use Rattle.intake.specs.Parts.{Parts}
use Rattle.intake.specs.declared.faults.ArchiveFault.{ArchiveFault}
use Rattle.memory_replies.specs.Dump.{is_out_of_range}
use Rattle.memory_replies.specs.Stack.{HasFrames}
use Rattle.memory_replies.specs.Window.{IsAtHand}
use Rattle.script_lines.specs.declared.query.MemoryQuery.{MemoryQuery}
use Rattle.script_lines.specs.declared.query.MemoryQuery.TheVariants.{Dump, At, Find, Strings, Backtrace, Unwind, Lines, Frame, Builds}
use Rattle.case_queries.specs.Fronts.{IsEnough, ReadsFront}
use Rattle.case_queries.specs.Seeing.{LooksAt, SeesImage}
use Rattle.case_queries.specs.declared.window.Part.{Part}
use Rattle.case_queries.specs.declared.window.Seen.{Seen}

-- the place at which the part begins, and its bytes; without one the whole image is at hand
abbrev pub part_at : Option Part → ℕ
part_at None = 0
part_at (Some p) = p.at

abbrev pub part_bytes : List ℕ → Option Part → List ℕ
part_bytes image None = image
part_bytes image (Some p) = p.bytes.items

-- how many bytes of an image a line reads at most after the first of it, if it doesn't read all
abbrev pub most_for : MemoryQuery → ℕ
most_for (Dump first n) = 65536
most_for (At address) = 0
most_for (Find needle) = 0
most_for (Strings least) = 0
most_for (Backtrace thread) = 1048576
most_for (Unwind thread) = 0
most_for (Lines thread) = 0
most_for (Frame thread frame) = 0
most_for (Builds query) = 0

-- These are as much of an image as a line wants: all of it; or bytes that are enough for its headers and notes, and a window of it, for a
-- dump with the bytes of its range, for the frames of a thread with its stack. `at` wants no window.
abbrev pub IsSeenBy : MemoryQuery → List ℕ → ℕ → ℕ → List ℕ → List ℕ → Type 0
IsSeenBy (Dump first n) front size at bytes image = IsEnough Core front image × IsAtHand front size at bytes first n image
IsSeenBy (At address) front size at bytes image = IsEnough Core front image × IsFrontOf front size image
IsSeenBy (Find needle) front size at bytes image = front ≡ image
IsSeenBy (Strings least) front size at bytes image = front ≡ image
IsSeenBy (Backtrace thread) front size at bytes image = IsEnough Core front image × HasFrames front size bytes thread image
IsSeenBy (Unwind thread) front size at bytes image = front ≡ image
IsSeenBy (Lines thread) front size at bytes image = front ≡ image
IsSeenBy (Frame thread frame) front size at bytes image = front ≡ image
IsSeenBy (Builds query) front size at bytes image = front ≡ image

-- the image of a case is seen by so much of it, or why it can't be read
abbrev pub SeesFor : {D : Type 0} → disk.Ghosts D → Parts D → ℕ → MemoryQuery → Result Seen ArchiveFault → Parts D → Type 0
SeesFor g old seq q (Ok s) new =
    (image : List ℕ) × SeesImage g old seq image new × IsSeenBy q s.kept.image.items s.size (part_at s.part) (part_bytes s.kept.image.items s.part) image
SeesFor g old seq q (Err f) new = LooksAt g old seq (Err f) new

abbrev pub SeesDump : {D : Type 0} → disk.Ghosts D → Parts D → ℕ → ℕ → ℕ → Result Seen ArchiveFault → Parts D → Type 0
SeesDump g old seq first n r new = SeesFor g old seq (Dump first n) r new

-- The range of an image of that size that begins with these bytes has the
-- bytes that n addresses from `first` on show of it, and is not long.
pub record IsWanted (front : List ℕ) (size first n start past : ℕ) : Type 0 where
  pub held : is_out_of_range first n ≡ false → AreHeldWithin size first n start past (segments_of front)
  pub range : (start ≤ past) × (past ≤ size)
  pub few : past - start ≤ 65536

-- n bytes of a case's image from a place on: those that its first bytes have of them, and those that are read
abbrev pub ReadsRange : {D : Type 0} → disk.Ghosts D → Parts D → ℕ → List ℕ → ℕ → ℕ → Result (Unit {0}) ArchiveFault → List ℕ → Parts D → Type 0
ReadsRange g old seq front start n r bytes new =
    (read : List ℕ) × PartCall g old seq (start + length (part front start n)) (n - length (part front start n)) r read new × OnOk r (bytes ≡ part front start n ++ read)

-- The first bytes of a case's image are read, or why they can't be.
abbrev pub ReadsOn : {D : Type 0} → disk.Ghosts D → Parts D → ℕ → Result (Unit {0}) ArchiveFault → List ℕ → Parts D → Type 0
ReadsOn g old seq (Ok u) front new = ReadsFront g old seq front new
ReadsOn g old seq (Err f) front new = LooksAt g old seq (Err f) new

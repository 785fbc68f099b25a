-- Laws of signatures.
use Rattle.std.specs.Prelude.{◌≡◌, ℕ, ◌+◌, ◌-◌, ◌≤◌, Bool, false, nat_lt, List, [], ◌∷◌, length, map, Option, None, Some, option_map}
use Rattle.std.specs.Cmp.Lexicographic.{slice_cmp}
use Rattle.std.specs.Ordering.{is_lt}
use Rattle.crash_signatures.specs.Frames.{FileSaid, FrameSaid, word_of}
use Rattle.crash_signatures.specs.Recursion.{least_turn, turned}
use Rattle.crash_signatures.specs.Signature.{HandledSaid, signature}
use Rattle.crash_signatures.specs.Words.{WordSaid, word_cmp}

-- at most seven words
abbrev pub SignaturesAreShort : Type 0
SignaturesAreShort = (ws : List WordSaid) (handled : Option HandledSaid) (is_whole : Bool) → length (signature ws handled is_whole).words ≤ 7

-- the range of memory into which a file is mapped, so many bytes higher
abbrev pub moved_file : ℕ → FileSaid → FileSaid
moved_file distance file = record { path = file.path; start = file.start + distance; offset = file.offset }

-- A frame, and the same frame if the file at its address is mapped so many bytes higher. If no file is mapped there, the pc may be
-- any other, but both are below 4096, or neither is.
pub record IsMoved (distance : ℕ) (f g : FrameSaid) : Type 0 where
  pub signal : g.is_signal ≡ f.is_signal
  pub function : g.function ≡ f.function
  pub file : g.file ≡ option_map (moved_file distance) f.file
  pub pc : (file : FileSaid) → f.file ≡ Some file → g.pc ≡ f.pc + distance
  pub null : f.file ≡ None → nat_lt g.pc 4096 ≡ nat_lt f.pc 4096
  pub vdso : g.is_vdso ≡ f.is_vdso
  pub files : g.has_files ≡ f.has_files

-- each frame is moved, one by another distance than the next, as its file is
abbrev pub AreMoved : List FrameSaid → List FrameSaid → Type 0
AreMoved [] [] = Unit {0}
AreMoved [] (g ∷ gs) = ⊥
AreMoved (f ∷ fs) [] = ⊥
AreMoved (f ∷ fs) (g ∷ gs) = ((distance : ℕ) × IsMoved distance f g) × AreMoved fs gs

-- frames that are moved with their files have the same signature
abbrev pub MovedAlikeIsSignedAlike : Type 0
MovedAlikeIsSignedAlike = (fs gs : List FrameSaid) (handled : Option HandledSaid) (is_whole : Bool) → AreMoved fs gs
    → signature (map word_of gs) handled is_whole ≡ signature (map word_of fs) handled is_whole

-- one of the turns of a cycle, and no turn of it is less
pub record IsLeastTurn (cycle least : List WordSaid) : Type 0 where
  pub places : ℕ
  pub within : places ≤ length cycle - 1
  pub turn : least ≡ turned places cycle
  pub none_less : (k : ℕ) → k ≤ length cycle - 1 → is_lt (slice_cmp word_cmp (turned k cycle) least) ≡ false

-- the words of a deep recursion are those of the least turn of its cycle
abbrev pub RecursionsAreTurned : Type 0
RecursionsAreTurned = (cycle : List WordSaid) → IsLeastTurn cycle (least_turn (length cycle - 1) cycle)

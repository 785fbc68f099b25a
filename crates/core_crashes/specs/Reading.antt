-- The signal that was being handled, of a case of an archive.
use Rattle.std.specs.Prelude.{◌≡◌, ℕ, List, [], Option}
use Rattle.std.specs.Option.{option_and_then}
use Rattle.address_space.specs.Source.{Space}
use Rattle.address_space.specs.Whole.{space_in}
use Rattle.core_crashes.specs.CaseReading.{IsImageOf, IsOnlyRead}
use Rattle.disk_model.specs.declared.disk.Disk as disk
use Rattle.frame_replies.specs.FrameValues.{ThreadFrames}
use Rattle.intake.specs.Parts.{Parts}
use Rattle.memory_replies.specs.Memory.{memory_of}
use Rattle.core_crashes.specs.Handled.{handled_at, signal_stack}

-- The signal whose frame begins at this stack pointer, if there is one, is that of the memory by the case's image. The archive is only
-- read.
pub record HandlesAt {D : Type 0} (g : disk.Ghosts D) (old : Parts D) (seq size : ℕ) (front : List ℕ) (space : Space) (stack handled : Option ℕ) (new : Parts D) : Type 0 where
  pub told : (image : List ℕ) → IsImageOf g old seq size front image → handled ≡ option_and_then (handled_at (space_in image space)) stack
  pub reads : IsOnlyRead g old new

-- It is the signal of the first frame of a signal among the first 16 frames, by the memory that the core alone has.
abbrev pub Handles : {D : Type 0} → disk.Ghosts D → Parts D → ℕ → ℕ → List ℕ → ThreadFrames → Option ℕ → Parts D → Type 0
Handles g old seq size front frames handled new = HandlesAt g old seq size front (memory_of front []) (signal_stack frames) handled new

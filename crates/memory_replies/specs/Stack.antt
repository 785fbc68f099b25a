-- The bytes of a thread's stack, if they are all that is at hand of a core's memory.
use Rattle.std.specs.Prelude.{◌≡◌, ◌<◌, ℕ, ◌+◌, ◌-◌, List, length, slice_get, slice_index, Option, None, Some, IfSome}
use Rattle.std.specs.Borrow.{Bor}
use Rattle.elf_view.specs.Header.{segments_of}
use Rattle.elf_view.specs.ViewWords.{notes_of}
use Rattle.elf_view.specs.declared.faults.Want.TheVariants.{Core}
use Rattle.core_notes.specs.Typed.{all_descs}
use Rattle.thread_regs.specs.Register.{register_in}
use Rattle.address_space.specs.Source.{Space, value_at}
use Rattle.address_space.specs.Whole.{IsFrontOf}
use Rattle.backtrace.specs.Chain.{chain, stop_of}
use Rattle.backtrace.specs.MemoryWords.{words_in}
use Rattle.memory_replies.specs.Backtrace.{words_of}

-- these bytes are the values of addresses in a row, from `first` on
abbrev pub AreStackOf : Space → ℕ → List ℕ → Type 0
AreStackOf space first bytes = (k : ℕ) → k < length bytes → value_at space (first + k) ≡ Some (slice_index bytes k)

-- A memory has the frames that bytes of its stack show, from 16 below the frame pointer on.
abbrev pub HasFramesOf : ℕ → ℕ → List ℕ → Space → Type 0
HasFramesOf pc fp bytes space =
    (chain (words_of space) pc fp ≡ chain (words_in (fp - 16) bytes) pc fp) × (stop_of (words_of space) pc fp ≡ stop_of (words_in (fp - 16) bytes) pc fp)

-- An image of that size begins with the bytes of `front`. If it has more, the frames of the thread of that number are those that
-- the bytes of its stack show, in each space of the image's segments.
pub record HasFrames (front : List ℕ) (size : ℕ) (bytes : List ℕ) (thread : ℕ) (image : List ℕ) : Type 0 where
  pub begins : IsFrontOf front size image
  pub frames : length front < size
      → IfSome (slice_get (all_descs 1 (notes_of Core front)) thread) (λ desc. (space : Space) → space.segments ≡ segments_of image → HasFramesOf (register_in desc 32) (register_in desc 8) bytes space)

-- The frames are taken from a memory, or from bytes of its stack, which show those of another that has the same files.
abbrev pub IsWalked : Option (Bor (List ℕ)) → ℕ → ℕ → Space → Space → Type 0
IsWalked None pc fp space other = other ≡ space
IsWalked (Some bytes) pc fp space other = HasFramesOf pc fp bytes.now other

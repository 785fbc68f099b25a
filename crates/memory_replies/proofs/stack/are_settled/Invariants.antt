use Rattle.std.proofs.Common.{◌≡◌, List, ℕ, None}
use Rattle.elf_view.specs.Header.{segments_of}
use Rattle.address_space.specs.Source.{Space}
use Rattle.address_space.specs.Whole.{IsFrontOf}
use Rattle.backtrace.specs.Agreeing.{AgreeAt}
use Rattle.backtrace.specs.Chain.{chain}
use Rattle.backtrace.specs.FrameWords.{frames_left}
use Rattle.backtrace.specs.MemoryWords.{words_in}
use Rattle.image_replies.specs.CoreWords.{core_bytes}
use Rattle.memory_replies.specs.Backtrace.{words_of}
use Rattle.memory_replies.specs.Stack.{AreStackOf}
use Rattle.memory_replies.proofs.stack.are_settled.Given as goal

-- if the memories agree at those that are left, they do at all
abbrev pub invariant-loop-frame : goal.invariant-loop-frame
invariant-loop-frame l =
    (image : List ℕ) → IsFrontOf (core_bytes l.core) l.size image → (space : Space) → space.segments ≡ segments_of image → AreStackOf space l.stack.first l.stack.bytes.now
    → AgreeAt (words_of space) (words_in l.stack.first l.stack.bytes.now) l.before (frames_left l.frames)
    → AgreeAt (words_of space) (words_in l.stack.first l.stack.bytes.now) None (chain (words_in l.stack.first l.stack.bytes.now) l.pc l.fp)

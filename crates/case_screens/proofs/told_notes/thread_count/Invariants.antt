use Rattle.std.proofs.Common.{◌≡◌, ◌≤◌, ◌+◌, length, min}
use Rattle.core_notes.specs.Typed.{all_descs}
use Rattle.elf_view.specs.ViewWords.{notes_of}
use Rattle.elf_view.specs.declared.faults.Want.TheVariants.{Core}
use Rattle.image_replies.specs.CoreWords.{core_bytes}
use Rattle.thread_regs.specs.ThreadWords.{threads_left}
use Rattle.case_screens.specs.Frames.{thread_count}
use Rattle.case_screens.proofs.told_notes.thread_count.Given as goal

-- those so far, and those that are left
abbrev pub invariant-loop-count : goal.invariant-loop-count
invariant-loop-count l = record {
  same : min (l.count + length (threads_left l.left)) 18446744073709551615 ≡ thread_count (all_descs 1 (notes_of Core (core_bytes l.core)));
  within : l.count ≤ 18446744073709551615;
}

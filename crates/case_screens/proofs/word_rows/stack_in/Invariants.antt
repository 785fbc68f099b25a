use Rattle.std.proofs.Common.{◌≡◌, ◌<◌, ◌+◌, ◌^◌, length}
use Rattle.address_space.specs.PieceWords.{mapping_view}
use Rattle.thread_regs.specs.ThreadWords.{threads_left}
use Rattle.case_screens.specs.WordRows.{stack_in}
use Rattle.case_screens.proofs.word_rows.stack_in.Given as goal

-- that of all is that of those which are left
abbrev pub invariant-loop-thread : goal.invariant-loop-thread
invariant-loop-thread l = record {
  same : stack_in (mapping_view l.mapping) 0 (threads_left l.fn.threads) ≡ stack_in (mapping_view l.mapping) l.index (threads_left l.rest);
  few : l.index + length (threads_left l.rest) < 2 ^ 128;
}

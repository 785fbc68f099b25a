use Rattle.std.proofs.Common.{◌≡◌, ℕ, ◌<◌, length, get_or, None}
use Rattle.thread_regs.specs.ThreadWords.{thread_bytes}
use Rattle.unwind.specs.Unwinding.{register_of}
use Rattle.unwind.proofs.frame.registers_of.Given as goal

-- the registers up to the column
abbrev pub invariant-loop-column : goal.invariant-loop-column
invariant-loop-column l =
    (length l.registers ≡ 32) × ((k : ℕ) → k < l.column → get_or l.registers k None ≡ register_of (thread_bytes l.thread) k)

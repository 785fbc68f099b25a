use Rattle.std.proofs.Common.{None, rules}
use Rattle.std.proofs.lemmas.List.FromFn.{fill_by_all}
use Rattle.thread_regs.specs.ThreadWords.{thread_bytes}
use Rattle.unwind.specs.Unwinding.{register_of, registers_of}
use Rattle.unwind.proofs.frame.registers_of.Goals as goal

pub returns : goal.returns
unfolding registers_of
returns c =
    fill_by_all (register_of (thread_bytes c.args.thread.now)) c.loop-column.registers 32 None c.loop-column.invariant.0 (search rules)

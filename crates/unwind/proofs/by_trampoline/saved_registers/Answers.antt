use Rattle.std.proofs.Common.{None, arith}
use Rattle.std.proofs.lemmas.List.FromFn.{fill_by_all}
use Rattle.seen_memory.specs.Seen.{space_by}
use Rattle.unwind.specs.ByTrampoline.{saved_register, saved_registers}
use Rattle.unwind.proofs.by_trampoline.saved_registers.Goals as goal

pub returns : goal.returns
unfolding saved_registers
returns c image is =
    fill_by_all (saved_register (space_by c.args.memory.now image) c.args.stack) c.loop-column.registers 32 None c.loop-column.invariant.0 (λ k h. c.loop-column.invariant.1 image is k (omega (arith, h)))

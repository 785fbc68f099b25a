use Rattle.std.proofs.Common.{None, arith}
use Rattle.std.proofs.lemmas.List.FromFn.{fill_by_all}
use Rattle.seen_memory.specs.Seen.{space_by}
use Rattle.unwind.specs.Values.{register_by, registers_by}
use Rattle.unwind.proofs.values.registers_by.Goals as goal

pub returns : goal.returns
unfolding registers_by
returns c image is =
    fill_by_all (register_by (space_by c.args.memory.now image) c.args.registers.now c.args.cfa c.args.row.now) c.loop-column.values 32 None c.loop-column.invariant.0 (λ k h. c.loop-column.invariant.1 image is k (omega (arith, h)))

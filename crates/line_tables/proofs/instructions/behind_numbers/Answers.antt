use Rattle.std.proofs.Common.{sym, ◌∙◌, arith}
use Rattle.line_tables.proofs.EntryLoops.{numbers_by, numbers_end}
use Rattle.line_tables.proofs.instructions.behind_numbers.Goals as goal

pub returns-in_err-behind : goal.returns-in_err-behind
returns-in_err-behind c =
    rw c.from_residual.ensures (sym (c.loop-i.invariant ∙ numbers_by c.args.count c.loop-i.i c.loop-i.rest.now _ (omega arith) c.in_err-behind.ensures))

pub loop-i-preserved : goal.loop-i-preserved
loop-i-preserved c =
    c.loop-i.invariant ∙ numbers_by c.args.count c.loop-i.i c.loop-i.rest.now _ (omega arith) c.in_ok-behind.ensures

pub returns : goal.returns
returns c = sym (c.loop-i.invariant ∙ numbers_end c.args.count c.loop-i.i c.loop-i.rest.now (omega arith))

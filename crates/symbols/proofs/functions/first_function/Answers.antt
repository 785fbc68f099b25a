use Rattle.std.proofs.Common.{sym, ◌∙◌, arith}
use Rattle.symbols.specs.Entry as spec
use Rattle.symbols.proofs.Entries.{find_here, find_on, find_past}
use Rattle.symbols.proofs.functions.first_function.Goals as goal

pub returns-then-is_function-clause-first : goal.returns-then-is_function-clause-first
returns-then-is_function-clause-first c =
    sym (c.loop-i.invariant ∙ find_here (spec.is_function c.args.entries.now) c.loop-i.i c.args.end (omega arith) (sym c.if-is_function.ensures))

pub loop-i-preserved : goal.loop-i-preserved
loop-i-preserved c =
    c.loop-i.invariant ∙ find_on (spec.is_function c.args.entries.now) c.loop-i.i c.args.end (omega arith) (sym c.if-is_function.ensures)

pub returns-clause-first : goal.returns-clause-first
returns-clause-first c =
    sym (c.loop-i.invariant ∙ find_past (spec.is_function c.args.entries.now) c.loop-i.i c.args.end (omega arith))

use Rattle.std.proofs.Common.{length, sym, ◌∙◌, arith}
use Rattle.line_tables.proofs.InfoLoops.{declared_missing, declared_found, declared_by, declared_none}
use Rattle.line_tables.proofs.abbreviations.declared_in.Goals as goal

pub returns-in_err-found : goal.returns-in_err-found
returns-in_err-found c =
    rw c.from_residual.ensures (sym (c.loop-i.invariant ∙ declared_missing (length c.args.table.now) c.loop-i.i c.args.code c.loop-i.rest.now (omega arith) c.in_err-found.ensures))

pub returns-then-found-code : goal.returns-then-found-code
returns-then-found-code c =
    sym (c.loop-i.invariant ∙ declared_found (length c.args.table.now) c.loop-i.i c.args.code c.loop-i.rest.now _ _ (omega arith) c.in_ok-found.ensures c.if-found-code.true)

pub returns-in_err-rest : goal.returns-in_err-rest
returns-in_err-rest c =
    rw c.from_residual-in_err-rest.ensures (sym (c.loop-i.invariant ∙ declared_by (length c.args.table.now) c.loop-i.i c.args.code c.loop-i.rest.now _ _ _ (omega arith) c.in_ok-found.ensures c.if-found-code.false c.in_err-rest.ensures))

pub loop-i-preserved : goal.loop-i-preserved
loop-i-preserved c =
    c.loop-i.invariant ∙ declared_by (length c.args.table.now) c.loop-i.i c.args.code c.loop-i.rest.now _ _ _ (omega arith) c.in_ok-found.ensures c.if-found-code.false c.in_ok-rest.ensures

pub returns : goal.returns
returns c =
    sym (c.loop-i.invariant ∙ declared_none (length c.args.table.now) c.loop-i.i c.args.code c.loop-i.rest.now (omega arith))

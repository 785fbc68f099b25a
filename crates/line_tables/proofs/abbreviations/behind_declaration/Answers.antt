use Rattle.std.proofs.Common.{length, sym, ◌∙◌, arith}
use Rattle.line_tables.proofs.InfoLoops.{specifications_missing, specifications_by, specifications_none}
use Rattle.line_tables.proofs.abbreviations.behind_declaration.Goals as goal

pub returns-in_err-name : goal.returns-in_err-name
returns-in_err-name c =
    rw c.from_residual.ensures (sym (c.loop-i.invariant ∙ specifications_missing (length c.args.specifications.now) c.loop-i.i c.loop-i.rest.now (omega arith) c.in_err-name.ensures))

pub returns-then-is_end : goal.returns-then-is_end
returns-then-is_end c =
    sym (c.loop-i.invariant ∙ specifications_by (length c.args.specifications.now) c.loop-i.i c.loop-i.rest.now _ _ _ _ (omega arith) c.in_ok-name.ensures c.if-is_end.ensures)

pub loop-i-preserved : goal.loop-i-preserved
loop-i-preserved c =
    c.loop-i.invariant ∙ specifications_by (length c.args.specifications.now) c.loop-i.i c.loop-i.rest.now _ _ _ _ (omega arith) c.in_ok-name.ensures c.if-is_end.ensures

pub returns : goal.returns
returns c =
    sym (c.loop-i.invariant ∙ specifications_none (length c.args.specifications.now) c.loop-i.i c.loop-i.rest.now (omega arith))

use Rattle.std.proofs.Common.{sym, ◌∙◌, arith}
use Rattle.line_tables.proofs.EntryLoops.{format_missing, format_by, format_end}
use Rattle.line_tables.proofs.entries.behind_format.Goals as goal

pub returns-in_err-content : goal.returns-in_err-content
returns-in_err-content c =
    rw c.from_residual.ensures (sym (c.loop-i.invariant ∙ format_missing c.args.count c.loop-i.i c.loop-i.rest.now (omega arith) c.in_err-content.ensures))

pub returns-then-not-suits : goal.returns-then-not-suits
returns-then-not-suits c =
    sym (c.loop-i.invariant ∙ format_by c.args.count c.loop-i.i c.loop-i.rest.now _ _ _ _ _ (omega arith) c.in_ok-content.ensures c.kind_of.ensures c.if-not-suits.ensures)

pub loop-i-preserved : goal.loop-i-preserved
loop-i-preserved c =
    c.loop-i.invariant ∙ format_by c.args.count c.loop-i.i c.loop-i.rest.now _ _ _ _ _ (omega arith) c.in_ok-content.ensures c.kind_of.ensures c.if-not-suits.ensures

pub returns : goal.returns
returns c = sym (c.loop-i.invariant ∙ format_end c.args.count c.loop-i.i c.loop-i.rest.now (omega arith))

use Rattle.std.proofs.Common.{sym, ◌∙◌, arith, length}
use Rattle.line_tables.specs.EntryWords.{format_view}
use Rattle.line_tables.proofs.EntryLoops.{counted_missing, counted_ends, counted_by, counted_none}
use Rattle.line_tables.proofs.lists.count_ended.Goals as goal

pub returns-in_err-first : goal.returns-in_err-first
returns-in_err-first c =
    rw c.from_residual.ensures (sym (c.loop-count.invariant ∙ counted_missing (length c.args.bytes.now) c.loop-count.count (format_view c.args.format.now) c.loop-count.rest.now (omega arith) c.in_err-first.ensures))

pub returns-then-first-eq0 : goal.returns-then-first-eq0
returns-then-first-eq0 c =
    sym (c.loop-count.invariant ∙ counted_ends (length c.args.bytes.now) c.loop-count.count (format_view c.args.format.now) c.loop-count.rest.now _ _ (omega arith) c.in_ok-first.ensures c.if-first-eq0.true)

pub returns-in_err-behind : goal.returns-in_err-behind
returns-in_err-behind c =
    rw c.from_residual-in_err-behind.ensures (sym (c.loop-count.invariant ∙ counted_by (length c.args.bytes.now) c.loop-count.count (format_view c.args.format.now) c.loop-count.rest.now _ _ _ (omega arith) c.in_ok-first.ensures c.if-first-eq0.false c.in_err-behind.ensures))

pub loop-count-preserved : goal.loop-count-preserved
loop-count-preserved c =
    c.loop-count.invariant ∙ counted_by (length c.args.bytes.now) c.loop-count.count (format_view c.args.format.now) c.loop-count.rest.now _ _ _ (omega arith) c.in_ok-first.ensures c.if-first-eq0.false c.in_ok-behind.ensures

pub returns : goal.returns
returns c =
    sym (c.loop-count.invariant ∙ counted_none (length c.args.bytes.now) c.loop-count.count (format_view c.args.format.now) c.loop-count.rest.now (omega arith))

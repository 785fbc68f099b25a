use Rattle.std.proofs.Common.{sym, ◌∙◌, arith}
use Rattle.line_tables.specs.EntryWords.{entry_view, strings_view}
use Rattle.line_tables.proofs.EntryLoops.{parts_missing, parts_by, parts_end}
use Rattle.line_tables.proofs.entries.Entry.read.Goals as goal

pub returns-in_err-content : goal.returns-in_err-content
returns-in_err-content c =
    rw c.from_residual.ensures (sym (c.loop-i.invariant ∙ parts_missing (strings_view c.args.strings.now) c.args.format.now.count c.loop-i.i c.loop-i.descriptions.now (entry_view c.loop-i.entry) c.loop-i.rest.now (omega arith) c.in_err-content.ensures))

pub returns-in_err-next : goal.returns-in_err-next
returns-in_err-next c =
    rw c.from_residual-in_err-next.ensures (sym (c.loop-i.invariant ∙ parts_by (strings_view c.args.strings.now) c.args.format.now.count c.loop-i.i c.loop-i.descriptions.now (entry_view c.loop-i.entry) c.loop-i.rest.now _ _ _ _ (omega arith) c.in_ok-content.ensures c.in_err-next.ensures))

pub loop-i-preserved : goal.loop-i-preserved
loop-i-preserved c =
    c.loop-i.invariant ∙ parts_by (strings_view c.args.strings.now) c.args.format.now.count c.loop-i.i c.loop-i.descriptions.now (entry_view c.loop-i.entry) c.loop-i.rest.now _ _ _ _ (omega arith) c.in_ok-content.ensures c.in_ok-next.ensures

pub returns : goal.returns
returns c =
    sym (c.loop-i.invariant ∙ parts_end (strings_view c.args.strings.now) c.args.format.now.count c.loop-i.i c.loop-i.descriptions.now (entry_view c.loop-i.entry) c.loop-i.rest.now (omega arith))

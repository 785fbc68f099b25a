use Rattle.std.proofs.Common.{sym, ◌∙◌, arith}
use Rattle.line_tables.specs.EntryWords.{format_view, strings_view}
use Rattle.line_tables.proofs.EntryLoops.{entries_by, entries_end}
use Rattle.line_tables.proofs.entries.behind_entries.Goals as goal

pub returns-in_err-behind : goal.returns-in_err-behind
returns-in_err-behind c =
    rw c.from_residual.ensures (sym (c.loop-i.invariant ∙ entries_by (strings_view c.args.strings.now) (format_view c.args.format.now) c.args.count c.loop-i.i c.loop-i.rest.now _ (omega arith) c.in_err-behind.ensures))

pub loop-i-preserved : goal.loop-i-preserved
loop-i-preserved c =
    c.loop-i.invariant ∙ entries_by (strings_view c.args.strings.now) (format_view c.args.format.now) c.args.count c.loop-i.i c.loop-i.rest.now _ (omega arith) c.in_ok-behind.ensures

pub returns : goal.returns
returns c =
    sym (c.loop-i.invariant ∙ entries_end (strings_view c.args.strings.now) (format_view c.args.format.now) c.args.count c.loop-i.i c.loop-i.rest.now (omega arith))

use Rattle.std.proofs.Common.{arith}
use Rattle.archive_replies.proofs.CaseLemmas.{one_line_more}
use Rattle.script_streams.specs.PrintLaws.{prints_then, prints_as}
use Rattle.archive_replies.proofs.replies.print_cases.Goals as goal

pub loop-entry-preserved : goal.loop-entry-preserved
loop-entry-preserved g c =
    prints_as (one_line_more c.args.version c.args.cases.now c.loop-entry.entry-index c.entry-item.result (omega arith) c.entry-item.is)
    (prints_then c.loop-entry.invariant c.print_case.ensures)

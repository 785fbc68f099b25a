use Rattle.script_streams.specs.PrintLaws.{prints_as, prints_then}
use Rattle.case_tables.proofs.LineLemmas.{lines_more}
use Rattle.case_tables.proofs.lines.print_case_lines.Goals as goal

pub loop-case-preserved : goal.loop-case-preserved
loop-case-preserved g c =
    prints_as (lines_more c.args.cases.now c.loop-case.case-index c.case-item.result c.loop-case-test.true c.case-item.is)
    (prints_then c.loop-case.invariant c.in_ok-print_case_line.ensures)

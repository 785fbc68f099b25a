use Rattle.std.proofs.Common.{ap, map, arith}
use Rattle.journal_layout.specs.Case.{case_of}
use Rattle.frame_replies.proofs.LineLemmas.{line_left, none_left}
use Rattle.case_screens.specs.Files.{file_row}
use Rattle.script_streams.specs.PrintLaws.{prints_as}
use Rattle.case_screens.proofs.TextLemmas.{front_begins, front_ends, front_grows}
use Rattle.case_screens.proofs.files.print_rows.Goals as goal

pub loop-row-init : goal.loop-row-init
loop-row-init g c = front_begins

pub loop-row-preserved : goal.loop-row-preserved
loop-row-preserved g c = front_grows c.loop-row.invariant (line_left (file_row (map case_of c.args.cases.now)) c.args.rows.now c.loop-row.row c.index-rows-row.result (omega arith)) (prints_as (ap (file_row (map case_of c.args.cases.now) c.loop-row.row) c.index-rows-row.is) c.print_row.ensures)

pub returns : goal.returns
returns g c = front_ends c.loop-row.invariant (none_left (file_row (map case_of c.args.cases.now)) c.args.rows.now c.loop-row.row (omega arith))

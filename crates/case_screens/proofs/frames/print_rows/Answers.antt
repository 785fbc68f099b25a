use Rattle.std.proofs.Common.{map, option_map, arith}
use Rattle.core_notes.specs.FileWords.{files_bytes}
use Rattle.frame_replies.proofs.LineLemmas.{line_left, none_left}
use Rattle.frame_replies.specs.LineWords.{source_view}
use Rattle.case_screens.specs.Core.{files_in}
use Rattle.case_screens.specs.Frames.{frame_row}
use Rattle.case_screens.proofs.TextLemmas.{front_begins, front_ends, front_grows}
use Rattle.case_screens.proofs.frames.print_rows.Goals as goal

pub loop-row-init : goal.loop-row-init
loop-row-init g c = front_begins

pub loop-row-preserved : goal.loop-row-preserved
loop-row-preserved g c = front_grows c.loop-row.invariant (line_left (frame_row (files_in (option_map files_bytes c.args.files)) (map (option_map source_view) c.args.lines.now)) c.args.frames.now c.loop-row.row _ (omega arith)) c.print_row.ensures

pub returns : goal.returns
returns g c = front_ends c.loop-row.invariant (none_left (frame_row (files_in (option_map files_bytes c.args.files)) (map (option_map source_view) c.args.lines.now)) c.args.frames.now c.loop-row.row (omega arith))

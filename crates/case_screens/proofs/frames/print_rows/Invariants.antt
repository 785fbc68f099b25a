use Rattle.std.proofs.Common.{drop, map, option_map}
use Rattle.core_notes.specs.FileWords.{files_bytes}
use Rattle.image_replies.specs.Lines.{numbered_lines}
use Rattle.frame_replies.specs.LineWords.{source_view}
use Rattle.script_streams.specs.Printing.{sink}
use Rattle.case_screens.specs.Core.{files_in}
use Rattle.case_screens.specs.Frames.{frame_row}
use Rattle.case_screens.proofs.TextLemmas.{PrintsFront}
use Rattle.case_screens.proofs.frames.print_rows.Given as goal

-- the frames that are left are still to be told
abbrev pub invariant-loop-row : goal.invariant-loop-row
invariant-loop-row g l =
    PrintsFront (sink g.O.Output l.initial.reply) (sink g.O.Output l.reply)
    (numbered_lines (frame_row (files_in (option_map files_bytes l.files)) (map (option_map source_view) l.lines)) 0 l.frames) (numbered_lines (frame_row (files_in (option_map files_bytes l.files)) (map (option_map source_view) l.lines)) l.row (drop l.row l.frames))

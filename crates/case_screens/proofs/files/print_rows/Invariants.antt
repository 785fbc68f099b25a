use Rattle.std.proofs.Common.{drop, map}
use Rattle.image_replies.specs.Lines.{numbered_lines}
use Rattle.journal_layout.specs.Case.{case_of}
use Rattle.script_streams.specs.Printing.{sink}
use Rattle.case_screens.specs.Files.{file_row}
use Rattle.case_screens.proofs.TextLemmas.{PrintsFront}
use Rattle.case_screens.proofs.files.print_rows.Given as goal

-- the files that are left are still to be told
abbrev pub invariant-loop-row : goal.invariant-loop-row
invariant-loop-row g l =
    PrintsFront (sink g.O.Output l.initial.reply) (sink g.O.Output l.reply)
    (numbered_lines (file_row (map case_of l.cases)) 0 l.rows) (numbered_lines (file_row (map case_of l.cases)) l.row (drop l.row l.rows))

use Rattle.std.proofs.Common.{take, map}
use Rattle.script_streams.specs.Printing.{sink}
use Rattle.std.specs.List.{flat_map}
use Rattle.journal_layout.specs.Case.{case_of}
use Rattle.script_streams.specs.Printing.{Prints}
use Rattle.archive_replies.specs.Texts.{case_line}
use Rattle.archive_replies.proofs.replies.print_cases.Given as goal

abbrev pub invariant-loop-entry : goal.invariant-loop-entry
invariant-loop-entry g l = Prints (sink g.O.Output l.initial.reply) (sink g.O.Output l.reply) (flat_map (case_line l.version) (map case_of (take l.entry-index l.cases)))

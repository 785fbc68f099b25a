use Rattle.std.proofs.Common.{take}
use Rattle.std.specs.List.{flat_map}
use Rattle.script_streams.specs.Replies.{PrintsText, printing}
use Rattle.archive_files.specs.UnlockedChecks.{told_line}
use Rattle.archive_files.proofs.unlocked_checks.print_cases.Given as goal

abbrev pub invariant-loop-case : goal.invariant-loop-case
invariant-loop-case g l = PrintsText (printing g.O.Output l.initial.reply l.reply) (flat_map told_line (take l.case-index l.cases))

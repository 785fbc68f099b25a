use Rattle.std.proofs.Common.{map, take}
use Rattle.std.specs.List.{flat_map}
use Rattle.script_streams.specs.Printing.{Prints, sink}
use Rattle.build_replies.specs.Builds.{build_line}
use Rattle.build_replies.specs.Mapped.{build_view}
use Rattle.build_replies.proofs.builds.print_lines.Given as goal

-- the lines of those that went by are told
abbrev pub invariant-loop-row : goal.invariant-loop-row
invariant-loop-row g l =
    Prints (sink g.O.Output l.initial.reply) (sink g.O.Output l.reply) (flat_map build_line (map build_view (take l.row-index l.rows)))

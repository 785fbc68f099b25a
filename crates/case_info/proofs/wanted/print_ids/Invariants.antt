use Rattle.std.proofs.Common.{map, take}
use Rattle.std.specs.List.{flat_map}
use Rattle.script_streams.specs.Printing.{Prints, sink}
use Rattle.build_replies.specs.BuildsWords.{wanted_view}
use Rattle.case_info.specs.Wants.{id_line}
use Rattle.case_info.proofs.wanted.print_ids.Given as goal

-- the lines of those that went by are told
abbrev pub invariant-loop-build : goal.invariant-loop-build
invariant-loop-build g l =
    Prints (sink g.O.Output l.initial.reply) (sink g.O.Output l.reply) (flat_map id_line (map wanted_view (take l.build-index l.builds)))

use Rattle.std.proofs.Common.{drop, map}
use Rattle.std.specs.Option.{option_map}
use Rattle.script_streams.specs.Printing.{sink}
use Rattle.image_replies.specs.Lines.{numbered_lines}
use Rattle.frame_replies.specs.LineWords.{source_view}
use Rattle.frame_replies.specs.SourceWords.{sourced_line}
use Rattle.frame_replies.proofs.PrintLemmas.{PrintsUpTo}
use Rattle.frame_replies.proofs.sources.print_source_lines.Given as goal

-- the lines of the frames that are left are still to be told
abbrev pub invariant-loop-index : goal.invariant-loop-index
invariant-loop-index g l =
    PrintsUpTo (sink g.O.Output l.initial.reply) (sink g.O.Output l.reply)
    (numbered_lines (sourced_line (map (option_map source_view) l.lines)) 0 l.frames) (numbered_lines (sourced_line (map (option_map source_view) l.lines)) l.index (drop l.index l.frames))

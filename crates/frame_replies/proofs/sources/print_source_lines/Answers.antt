use Rattle.std.proofs.Common.{ap, map, arith}
use Rattle.std.specs.Option.{option_map}
use Rattle.script_streams.specs.PrintLaws.{prints_as}
use Rattle.frame_replies.specs.LineWords.{source_view}
use Rattle.frame_replies.specs.FrameSources.{source_line}
use Rattle.frame_replies.specs.SourceWords.{sourced_line}
use Rattle.frame_replies.proofs.PrintLemmas.{up_to_start, up_to_then, up_to_end}
use Rattle.frame_replies.proofs.LineLemmas.{line_left, none_left}
use Rattle.frame_replies.proofs.sources.print_source_lines.Goals as goal

pub loop-index-init : goal.loop-index-init
loop-index-init g c = up_to_start

pub loop-index-preserved : goal.loop-index-preserved
loop-index-preserved g c =
    let line = sourced_line (map (option_map source_view) c.args.lines.now) in
    let i = c.loop-index.index in
    let same = ap (source_line i _) c.line_of.ensures in
    up_to_then (line_left line c.args.frames.now i _ (omega arith)) c.loop-index.invariant (prints_as same c.print_sourced.ensures)

pub returns : goal.returns
returns g c = up_to_end (none_left (sourced_line (map (option_map source_view) c.args.lines.now)) c.args.frames.now c.loop-index.index (omega arith)) c.loop-index.invariant

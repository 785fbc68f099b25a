use Rattle.std.proofs.Common.{ap, arith}
use Rattle.address_space.specs.SpaceWords.{space_of}
use Rattle.frame_replies.specs.ProcessWords.{named_in}
use Rattle.script_streams.specs.PrintLaws.{prints_as}
use Rattle.frame_replies.specs.FrameLines.{value_line}
use Rattle.frame_replies.specs.Walking.{walked_line}
use Rattle.frame_replies.specs.declared.lines.Shown.TheVariants.{Stack}
use Rattle.frame_replies.proofs.PrintLemmas.{up_to_start, up_to_then, up_to_end}
use Rattle.frame_replies.proofs.LineLemmas.{line_left, none_left}
use Rattle.frame_replies.proofs.lines.print_lines.Goals as goal

pub loop-index-init : goal.loop-index-init
loop-index-init g c = up_to_start

pub loop-index-preserved : goal.loop-index-preserved
loop-index-preserved g c =
    up_to_then (line_left (walked_line Stack (space_of c.args.process.now.space).files (named_in c.args.process.now.executables.now.images)) c.args.frames.now c.loop-index.index _ (omega arith)) c.loop-index.invariant (prints_as (ap (value_line c.loop-index.index) c.frame.ensures) c.print_line.ensures)

pub returns : goal.returns
returns g c =
    up_to_end (none_left (walked_line Stack (space_of c.args.process.now.space).files (named_in c.args.process.now.executables.now.images)) c.args.frames.now c.loop-index.index (omega arith)) c.loop-index.invariant

use Rattle.std.proofs.Common.{drop}
use Rattle.script_streams.specs.Printing.{sink}
use Rattle.address_space.specs.SpaceWords.{space_of}
use Rattle.image_replies.specs.Lines.{numbered_lines}
use Rattle.frame_replies.specs.ProcessWords.{named_in}
use Rattle.frame_replies.specs.Walking.{walked_line}
use Rattle.frame_replies.specs.declared.lines.Shown.TheVariants.{Stack}
use Rattle.frame_replies.proofs.PrintLemmas.{PrintsUpTo}
use Rattle.frame_replies.proofs.lines.print_lines.Given as goal

-- the lines of the frames that are left are still to be told
abbrev pub invariant-loop-index : goal.invariant-loop-index
invariant-loop-index g l =
    PrintsUpTo (sink g.O.Output l.initial.reply) (sink g.O.Output l.reply)
    (numbered_lines (walked_line Stack (space_of l.process.space).files (named_in l.process.executables.now.images)) 0 l.frames) (numbered_lines (walked_line Stack (space_of l.process.space).files (named_in l.process.executables.now.images)) l.index (drop l.index l.frames))

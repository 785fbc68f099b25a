use Rattle.std.proofs.Common.{◌<◌, ◌+◌, ◌^◌, length}
use Rattle.script_streams.specs.Printing.{sink}
use Rattle.elf_view.specs.SegmentWords.{segments_left}
use Rattle.image_replies.specs.Lines.{numbered_lines}
use Rattle.image_replies.specs.Header.{segment_line}
use Rattle.image_replies.proofs.TextLemmas.{PrintsFront}
use Rattle.image_replies.proofs.header.print_segment_lines.Given as goal

-- the lines of what is left are still to be told
abbrev pub invariant-loop-segment : goal.invariant-loop-segment
invariant-loop-segment g l = record {
  told : PrintsFront (sink g.O.Output l.initial.reply) (sink g.O.Output l.reply) (numbered_lines segment_line 0 (segments_left l.fn.segments)) (numbered_lines segment_line l.index (segments_left l.rest));
  few : l.index + length (segments_left l.rest) < 2 ^ 32;
}

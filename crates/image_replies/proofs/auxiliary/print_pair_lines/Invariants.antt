use Rattle.std.specs.List.{flat_map}
use Rattle.script_streams.specs.Printing.{sink}
use Rattle.core_notes.specs.DescriptorWords.{pairs_left}
use Rattle.image_replies.specs.Auxv.{pair_line}
use Rattle.image_replies.proofs.TextLemmas.{PrintsFront}
use Rattle.image_replies.proofs.auxiliary.print_pair_lines.Given as goal

-- the lines of what is left are still to be told
abbrev pub invariant-loop-pair : goal.invariant-loop-pair
invariant-loop-pair g l = PrintsFront (sink g.O.Output l.initial.reply) (sink g.O.Output l.reply) (flat_map pair_line (pairs_left l.fn.pairs)) (flat_map pair_line (pairs_left l.rest))

use Rattle.std.proofs.Common.{ap}
use Rattle.std.specs.List.{flat_map}
use Rattle.image_replies.specs.Auxv.{pair_line}
use Rattle.image_replies.proofs.TextLemmas.{front_begins, front_grows, front_ends}
use Rattle.image_replies.proofs.auxiliary.print_pair_lines.Goals as goal

pub loop-pair-init : goal.loop-pair-init
loop-pair-init g c = front_begins

pub loop-pair-preserved : goal.loop-pair-preserved
loop-pair-preserved g c = front_grows c.loop-pair.invariant (ap (flat_map pair_line) c.in-Some.ensures.steps) c.print_pair_line.ensures

pub returns : goal.returns
returns g c = front_ends c.loop-pair.invariant (ap (flat_map pair_line) c.in_default.ensures.steps.0)

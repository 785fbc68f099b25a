use Rattle.std.proofs.Common.{ap}
use Rattle.std.specs.List.{flat_map}
use Rattle.image_replies.specs.Files.{file_line}
use Rattle.image_replies.proofs.TextLemmas.{front_begins, front_grows, front_ends}
use Rattle.image_replies.proofs.files.print_file_lines.Goals as goal

pub loop-map-init : goal.loop-map-init
loop-map-init g c = front_begins

pub loop-map-preserved : goal.loop-map-preserved
loop-map-preserved g c = front_grows c.loop-map.invariant (ap (flat_map file_line) c.in-Some.ensures.steps) c.print_file_line.ensures

pub returns : goal.returns
returns g c = front_ends c.loop-map.invariant (ap (flat_map file_line) c.in_default.ensures.steps.0)

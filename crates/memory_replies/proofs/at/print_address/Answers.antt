use Rattle.std.proofs.Common.{ap}
use Rattle.address_space.specs.PieceWords.{mapping_view}
use Rattle.script_streams.specs.PrintLaws.{prints_as, prints_then}
use Rattle.memory_replies.specs.At.{at_line, at_lines, file_line}
use Rattle.memory_replies.proofs.at.print_address.Goals as goal

pub returns : goal.returns
unfolding at_lines
returns g c image begins =
    prints_then (prints_as (ap (at_line c.args.address (mapping_view c.args.mapping)) (c.source_of-source.ensures image begins)) c.print_mapping.ensures)
    (prints_then (prints_as (ap file_line c.spot.ensures) c.print_file.ensures)
    (prints_then c.print_function.ensures c.print_stacks.ensures))

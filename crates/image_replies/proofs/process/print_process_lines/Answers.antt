use Rattle.script_streams.specs.PrintLaws.{prints_then}
use Rattle.image_replies.proofs.process.print_process_lines.Goals as goal

pub returns : goal.returns
returns g c =
    prints_then c.print_numbers.ensures
    (prints_then c.print_owner.ensures
    (prints_then c.print_state.ensures c.print_names.ensures))

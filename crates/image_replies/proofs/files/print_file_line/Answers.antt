use Rattle.script_streams.specs.PrintLaws.{prints_then}
use Rattle.image_replies.proofs.files.print_file_line.Goals as goal

pub returns : goal.returns
returns g c =
    prints_then c.print_address.ensures
    (prints_then c.print_address-2.ensures
    (prints_then c.print_address-3.ensures
    (prints_then c.print_text.ensures c.print.ensures)))

use Rattle.script_streams.specs.PrintLaws.{prints_then}
use Rattle.image_replies.proofs.words.print_number.Goals as goal

pub returns : goal.returns
returns g c = prints_then c.print_decimal.ensures c.print.ensures

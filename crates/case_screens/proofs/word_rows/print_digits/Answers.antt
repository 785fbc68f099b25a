use Rattle.std.proofs.Common.{ap}
use Rattle.script_words.specs.Hex.{hex_of}
use Rattle.script_streams.specs.PrintLaws.{prints_as}
use Rattle.case_screens.proofs.word_rows.print_digits.Goals as goal

pub returns : goal.returns
returns g c = prints_as (ap hex_of c.to_be_bytes.ensures) c.print_hex.ensures

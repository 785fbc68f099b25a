use Rattle.std.proofs.Common.{ap}
use Rattle.script_words.specs.Printing.{hexadecimal}
use Rattle.script_streams.specs.PrintLaws.{prints_as, prints_then}
use Rattle.case_screens.proofs.word_rows.print_register.Goals as goal

pub returns : goal.returns
returns g c = record {
  is_row = prints_then c.print.ensures
      (prints_then c.print-2.ensures
      (prints_then (prints_as (ap hexadecimal c.from.ensures) c.print_hexadecimal.ensures) (prints_then c.print_target.ensures c.print-3.ensures)));
}

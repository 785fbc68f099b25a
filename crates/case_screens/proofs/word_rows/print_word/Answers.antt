use Rattle.script_streams.specs.PrintLaws.{prints_then}
use Rattle.case_screens.proofs.word_rows.print_word.Goals as goal

pub returns : goal.returns
returns g c = record { is_row = prints_then c.print_hex_word.ensures (prints_then c.print.ensures (prints_then c.print_known.ensures c.print-2.ensures)) }

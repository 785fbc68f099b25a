use Rattle.std.proofs.Common.{ap, decimal}
use Rattle.script_streams.specs.PrintLaws.{prints_as, prints_then}
use Rattle.archive_files.specs.Printing.{stall_words}
use Rattle.archive_files.proofs.failures.print_stall.Goals as goal

pub returns : goal.returns
unfolding stall_words
returns g c = prints_then c.print.ensures (prints_then (prints_as (ap decimal c.from.ensures) c.print_decimal.ensures) c.print-2.ensures)

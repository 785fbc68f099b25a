use Rattle.script_streams.specs.PrintLaws.{prints_then}
use Rattle.case_tables.proofs.archive_screen.print_times.Goals as goal

pub returns : goal.returns
returns g c =
    prints_then c.print.ensures
    (prints_then c.print_time_in.ensures
    (prints_then c.print-2.ensures
    (prints_then c.print_time_in-2.ensures c.print-3.ensures)))

use Rattle.script_streams.specs.PrintLaws.{prints_then}
use Rattle.case_tables.proofs.times.print_moment.Goals as goal

pub returns : goal.returns
returns g c =
    prints_then c.print_date.ensures (prints_then c.print.ensures (prints_then c.print_clock.ensures c.print-2.ensures))

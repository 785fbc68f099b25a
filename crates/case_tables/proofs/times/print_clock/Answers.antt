use Rattle.script_streams.specs.PrintLaws.{prints_then}
use Rattle.case_tables.proofs.times.print_clock.Goals as goal

pub returns : goal.returns
returns g c =
    prints_then c.print_two.ensures (prints_then c.print.ensures (prints_then c.print_two-2.ensures
    (prints_then c.print-2.ensures c.print_two-3.ensures)))

use Rattle.script_streams.specs.PrintLaws.{prints_then, prints_as}
use Rattle.case_tables.proofs.times.print_clock_of.Goals as goal

pub returns : goal.returns
returns g c =
    prints_then c.print_date.ensures
    (prints_then c.print.ensures
    (prints_then c.print_clock.ensures
    (prints_then (prints_as c.sign.ensures c.print-2.ensures)
    (prints_then c.print_two.ensures
    (prints_then c.print-3.ensures c.print_two-2.ensures)))))

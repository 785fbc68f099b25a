use Rattle.script_streams.specs.PrintLaws.{prints_then}
use Rattle.case_tables.proofs.table.print_row.Goals as goal

pub returns : goal.returns
returns g c =
    prints_then c.print_right.ensures
    (prints_then c.print_left.ensures
    (prints_then c.print_left-2.ensures
    (prints_then c.print_left-3.ensures
    (prints_then c.print_left-4.ensures
    (prints_then c.print_left-5.ensures
    (prints_then c.print_left-6.ensures
    (prints_then c.print_cell.ensures c.print.ensures)))))))

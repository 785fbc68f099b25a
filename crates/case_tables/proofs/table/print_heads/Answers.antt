use Rattle.script_streams.specs.PrintLaws.{prints_then, prints_as}
use Rattle.case_tables.proofs.table.print_heads.Goals as goal

pub returns : goal.returns
returns g c =
    prints_then c.print_right_head.ensures
    (prints_then c.print_left_head.ensures
    (prints_then c.print_left_head-2.ensures
    (prints_then c.print_left_head-3.ensures
    (prints_then c.print_left_head-4.ensures
    (prints_then c.print_left_head-5.ensures
    (prints_then c.print_left_head-6.ensures
    (prints_then (prints_as c.heading.ensures c.print.ensures) c.print-2.ensures)))))))

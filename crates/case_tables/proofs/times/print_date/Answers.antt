use Rattle.std.proofs.Common.{ap, ◌/◌, ◌%◌}
use Rattle.script_streams.specs.PrintLaws.{prints_then, prints_as}
use Rattle.case_tables.specs.Times.{two_digits}
use Rattle.case_tables.proofs.times.print_date.Goals as goal

pub returns : goal.returns
returns g c =
    prints_then (prints_as (ap (λ n. two_digits (n / 100)) c.from.ensures) c.print_two.ensures)
    (prints_then (prints_as (ap (λ n. two_digits (n % 100)) c.from-2.ensures) c.print_two-2.ensures)
    (prints_then c.print.ensures
    (prints_then (prints_as (ap two_digits c.from-3.ensures) c.print_two-3.ensures)
    (prints_then c.print-2.ensures (prints_as (ap two_digits c.from-4.ensures) c.print_two-4.ensures)))))

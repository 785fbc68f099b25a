use Rattle.std.proofs.Common.{ap, decimal}
use Rattle.script_streams.specs.PrintLaws.{prints_then, prints_as}
use Rattle.archive_checks.proofs.lines.print_gap.Goals as goal

pub returns-in-Generation : goal.returns-in-Generation
returns-in-Generation g c =
    rw c.in-Generation.is
    (prints_then c.print.ensures
    (prints_then (prints_as c.half_word.ensures c.print-in-Generation.ensures)
    (prints_then c.print-in-Generation-2.ensures
    (prints_then (prints_as (ap decimal c.from.ensures) c.print_decimal.ensures)
    (prints_then c.print-in-Generation-3.ensures
    (prints_then (prints_as (ap decimal c.from-in-Generation.ensures) c.print_decimal-in-Generation.ensures) c.print-in-Generation-4.ensures))))))

pub returns-in-Newer : goal.returns-in-Newer
returns-in-Newer g c =
    rw c.in-Newer.is
    (prints_then c.print-in-Newer.ensures
    (prints_then (prints_as c.half_word-in-Newer.ensures c.print-in-Newer-2.ensures)
    (prints_then c.print-in-Newer-3.ensures
    (prints_then (prints_as (ap decimal c.from-in-Newer.ensures) c.print_decimal-in-Newer.ensures)
    (prints_then c.print-in-Newer-4.ensures
    (prints_then (prints_as (ap decimal c.from-in-Newer-2.ensures) c.print_decimal-in-Newer-2.ensures) c.print-in-Newer-5.ensures))))))

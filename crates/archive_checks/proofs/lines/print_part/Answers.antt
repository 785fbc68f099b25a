use Rattle.std.proofs.Common.{ap, decimal}
use Rattle.script_streams.specs.PrintLaws.{prints_then, prints_as}
use Rattle.archive_checks.proofs.lines.print_part.Goals as goal

pub returns-in-Header : goal.returns-in-Header
returns-in-Header g c =
    rw c.in-Header.is
    (prints_then c.print-in-Header.ensures (prints_then (prints_as c.half_word.ensures c.print-in-Header-2.ensures) c.print-in-Header-3.ensures))

pub returns-in-Record : goal.returns-in-Record
returns-in-Record g c =
    rw c.in-Record.is
    (prints_then c.print-in-Record.ensures
    (prints_then (prints_as (ap decimal c.from.ensures) c.print_decimal.ensures)
    (prints_then c.print-in-Record-2.ensures (prints_then (prints_as c.half_word-in-Record.ensures c.print-in-Record-3.ensures) c.print-in-Record-4.ensures))))

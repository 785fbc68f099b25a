use Rattle.std.proofs.Common.{ap, decimal}
use Rattle.script_streams.specs.PrintLaws.{prints_then, prints_as}
use Rattle.archive_checks.proofs.lines.print_place.Goals as goal

pub returns : goal.returns
returns g c = prints_then c.print.ensures (prints_then (prints_as (ap decimal c.from.ensures) c.print_decimal.ensures) c.print_part.ensures)

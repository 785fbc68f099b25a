use Rattle.std.proofs.Common.{ap, decimal, rules, sym}
use Rattle.script_streams.specs.PrintLaws.{prints_as, prints_then}
use Rattle.archive_files.specs.Checks.{hidden_line}
use Rattle.archive_files.proofs.checks.print_gate.Goals as goal

pub returns-in-Damaged : goal.returns-in-Damaged
unfolding hidden_line
returns-in-Damaged g c =
    prints_as (ap hidden_line (sym c.in-Damaged.is))
    (prints_then c.print.ensures (prints_then (prints_as (ap decimal c.from.ensures) c.print_decimal.ensures) c.print-in-Damaged.ensures))

pub returns-in_default : goal.returns-in_default
unfolding hidden_line
returns-in_default g c = search rules

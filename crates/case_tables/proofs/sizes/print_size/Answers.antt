use Rattle.std.proofs.Common.{ap, refl, arith}
use Rattle.std.proofs.lemmas.Bool.{cond_above, cond_below}
use Rattle.std.specs.Prelude.{decimal}
use Rattle.script_streams.specs.PrintLaws.{prints_then, prints_as}
use Rattle.case_tables.proofs.sizes.print_size.Goals as goal

pub returns-then-size-lt-KIB : goal.returns-then-size-lt-KIB
returns-then-size-lt-KIB g c =
    prints_as (cond_below c.args.size 1_024 _ _ (omega arith))
    (prints_then (prints_as (ap decimal c.from.ensures) c.print_decimal.ensures) c.print.ensures)

pub returns-then-size-lt-MIB : goal.returns-then-size-lt-MIB
returns-then-size-lt-MIB g c =
    prints_as (cond_above c.args.size 1_024 _ _ _ (omega arith) (cond_below c.args.size 1_048_576 _ _ (omega arith)))
    (prints_then c.print_units.ensures c.print-then-size-lt-MIB.ensures)

pub returns-then-size-lt-GIB : goal.returns-then-size-lt-GIB
returns-then-size-lt-GIB g c =
    prints_as
    (cond_above c.args.size 1_024 _ _ _ (omega arith)
    (cond_above c.args.size 1_048_576 _ _ _ (omega arith) (cond_below c.args.size 1_073_741_824 _ _ (omega arith))))
    (prints_then c.print_units-then-size-lt-GIB.ensures c.print-then-size-lt-GIB.ensures)

pub returns-else-size-lt-GIB : goal.returns-else-size-lt-GIB
returns-else-size-lt-GIB g c =
    prints_as
    (cond_above c.args.size 1_024 _ _ _ (omega arith)
    (cond_above c.args.size 1_048_576 _ _ _ (omega arith) (cond_above c.args.size 1_073_741_824 _ _ _ (omega arith) refl)))
    (prints_then c.print_units-else-size-lt-GIB.ensures c.print-else-size-lt-GIB.ensures)

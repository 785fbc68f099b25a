use Rattle.std.proofs.Common.{ap, sym}
use Rattle.script_streams.specs.PrintLaws.{prints_as, prints_nothing, prints_then}
use Rattle.group_tables.specs.Cells.{label_text}
use Rattle.group_tables.proofs.cells.print_label.Goals as goal

pub returns-then-is_perhaps : goal.returns-then-is_perhaps
returns-then-is_perhaps g c = prints_as (ap (label_text c.args.label.now) (sym c.if-is_perhaps.true)) (prints_then c.print_text.ensures c.print.ensures)

pub returns-else-is_perhaps : goal.returns-else-is_perhaps
returns-else-is_perhaps g c = prints_as (ap (label_text c.args.label.now) (sym c.if-is_perhaps.false)) (prints_then c.print_text.ensures prints_nothing)

use Rattle.std.proofs.Common.{sym, ◌∙◌}
use Rattle.script_streams.specs.PrintLaws.{prints_then, prints_as, prints_nothing}
use Rattle.case_screens.proofs.TextLemmas.{labelled, unlabelled}
use Rattle.case_screens.proofs.screen.print_label_of.Goals as goal

pub returns-then-not-is_empty : goal.returns-then-not-is_empty
returns-then-not-is_empty g c =
    prints_as (labelled c.args.label.now (sym c.is_empty.ensures ∙ c.if-not-is_empty.true)) (prints_then c.print.ensures c.print_text.ensures)

pub returns-else-not-is_empty : goal.returns-else-not-is_empty
returns-else-not-is_empty g c =
    prints_as (unlabelled c.args.label.now (sym c.is_empty.ensures ∙ c.if-not-is_empty.false)) prints_nothing

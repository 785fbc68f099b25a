use Rattle.std.proofs.Common.{ap, sym, ◌∙◌}
use Rattle.address_space.specs.PieceWords.{mapping_view}
use Rattle.script_streams.specs.PrintLaws.{prints_as, prints_then}
use Rattle.case_screens.specs.WordRows.{stack_in, stack_text}
use Rattle.case_screens.proofs.word_rows.print_mapping.Goals as goal

pub returns-in-Some : goal.returns-in-Some
returns-in-Some g c =
    prints_as (ap stack_text (sym c.in-Some.is ∙ c.stack_in.ensures ∙ ap (stack_in (mapping_view c.args.mapping.now) 0) c.threads_of.ensures.threads))
    (prints_then c.print.ensures c.print_decimal.ensures)

pub returns-in-None : goal.returns-in-None
returns-in-None g c =
    prints_as (ap stack_text (sym c.in-None.is ∙ c.stack_in.ensures ∙ ap (stack_in (mapping_view c.args.mapping.now) 0) c.threads_of.ensures.threads))
    c.print-in-None.ensures

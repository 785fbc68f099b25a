use Rattle.std.proofs.Common.{ap, ◌∙◌, ◌-◌, length}
use Rattle.std.specs.Prelude.{decimal}
use Rattle.script_streams.specs.PrintLaws.{prints_then, prints_as}
use Rattle.script_words.specs.Printing.{shown}
use Rattle.case_tables.specs.Table.{spaces}
use Rattle.case_screens.specs.Screen.{label_text}
use Rattle.case_screens.proofs.screen.print_head.Goals as goal

pub returns : goal.returns
returns g c =
    prints_then (prints_as (ap shown c.as_slice.ensures.value) c.print_text.ensures)
    (prints_then (prints_as (ap spaces (c.saturating_sub.ensures ∙ ap (λ n. 36 - n) (c.shown_length.ensures ∙ ap (λ t. length (shown t)) c.as_slice-2.ensures.value))) c.print_spaces.ensures)
    (prints_then c.print.ensures
    (prints_then (prints_as (ap decimal c.from.ensures) c.print_decimal.ensures)
    (prints_then c.print-2.ensures
    (prints_then c.print_size.ensures
    (prints_then c.print_pin.ensures
    (prints_then (prints_as (ap label_text c.as_slice-3.ensures.value) c.print_label_of.ensures) c.print-3.ensures)))))))

use Rattle.std.proofs.Common.{ap, sym, ◌∙◌}
use Rattle.std.specs.Option.{option_copied}
use Rattle.case_tables.specs.Cells.{named_signal}
use Rattle.script_streams.specs.PrintLaws.{prints_then, prints_as}
use Rattle.case_tables.proofs.signals.print_signal.Goals as goal

pub returns-in-Some : goal.returns-in-Some
returns-in-Some g c =
    prints_as (ap (λ o. named_signal (option_copied o) c.args.signal) (sym c.in-Some.is) ∙ ap (λ o. named_signal o c.args.signal) c.name_of.ensures)
    (prints_then c.print.ensures (prints_as c.as_bytes.ensures.value c.print-in-Some.ensures))

pub returns-in-None : goal.returns-in-None
returns-in-None g c =
    prints_as (ap (λ o. named_signal (option_copied o) c.args.signal) (sym c.in-None.is) ∙ ap (λ o. named_signal o c.args.signal) c.name_of.ensures)
    c.print_known.ensures

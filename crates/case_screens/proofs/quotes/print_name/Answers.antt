use Rattle.std.proofs.Common.{ap, sym, ◌∙◌}
use Rattle.std.specs.Str.{bytes_eq}
use Rattle.script_streams.specs.PrintLaws.{prints_as}
use Rattle.case_screens.specs.Quotes.{between_quotes}
use Rattle.case_screens.proofs.QuoteLemmas.{between_names, shown_long}
use Rattle.case_screens.proofs.quotes.print_name.Goals as goal

pub returns-else-eq : goal.returns-else-eq
returns-else-eq g c =
    let name = c.args.name.now in
    let some = sym c.is_empty.ensures ∙ c.if-is_empty.false in
    let other = ap (bytes_eq name) (sym c.as_slice.ensures) ∙ sym c.eq.ensures ∙ c.if-eq.false in
    prints_as (sym (between_names name) ∙ ap between_quotes (sym (shown_long name some other))) c.print_bytes.ensures

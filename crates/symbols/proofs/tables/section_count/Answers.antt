use Rattle.std.proofs.Common.{Err, sym, ap, ◌∙◌}
use Rattle.symbols.proofs.Sections.{counted}
use Rattle.symbols.proofs.tables.section_count.Goals as goal

pub unreachable-requires : goal.unreachable-requires
unreachable-requires c =
    counted _ (sym c.section_count.ensures ∙ c.in-Err-NoSection.is ∙ ap (λ f. Err f) c.in-Err-NoSection.field-0-is)

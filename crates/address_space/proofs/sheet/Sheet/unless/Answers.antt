use Rattle.std.proofs.Common.{ℕ, subst}
use Rattle.std.specs.Option.{option_map}
use Rattle.std.proofs.lemmas.Option.{same_Some}
use Rattle.elf_view.specs.Header.{SegmentView, segments_of}
use Rattle.elf_view.specs.ViewWords.{image_of}
use Rattle.address_space.specs.Source.{first_from, is_covering}
use Rattle.address_space.specs.Orders.{IsOrderOf}
use Rattle.address_space.specs.declared.sheet.Sheet.{Sheet}
use Rattle.address_space.proofs.sheet.Sheet.unless.Goals as goal

pub returns-clause-ordered : goal.returns-clause-ordered
returns-clause-ordered c s is =
    subst (λ (t : Sheet). IsOrderOf (λ a. option_map (λ (d : ℕ × SegmentView). d.0) (first_from (is_covering a) 0 (segments_of (image_of c.args.elf.now)))) t.order.rows.items) (same_Some c.in_ok-sheet.sheet s is) c.in_ok-sheet.ensures.ordered

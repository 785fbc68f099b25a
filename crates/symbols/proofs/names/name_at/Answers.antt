use Rattle.std.proofs.Common.{length, ap, ◌∙◌}
use Rattle.elf_view.specs.Field.{part, text_before_nul}
use Rattle.symbols.proofs.StringEnds.{from_place}
use Rattle.symbols.proofs.names.name_at.Goals as goal

pub returns : goal.returns
returns c =
    c.text_before_nul.ensures ∙ ap text_before_nul (c.part.ensures ∙ ap (λ at. part c.args.strings.now at (length c.args.strings.now)) c.from.ensures ∙ from_place c.args.strings.now c.args.place)

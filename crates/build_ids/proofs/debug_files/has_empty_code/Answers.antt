use Rattle.std.proofs.Common.{◌+◌, ◌-◌, sym, ap, ◌∙◌}
use Rattle.std.specs.Prelude.{◌||◌}
use Rattle.std.specs.List.{list_any}
use Rattle.elf_view.specs.ViewWords.{image_of}
use Rattle.build_ids.specs.DebugFile as spec
use Rattle.build_ids.proofs.SectionRows.{any_from}
use Rattle.build_ids.proofs.debug_files.has_empty_code.Goals as goal

pub returns-then-is_empty_code : goal.returns-then-is_empty_code
returns-then-is_empty_code c =
    let b = image_of c.args.elf.now in
    let i = c.loop-i.i in
    let n = c.section_count-i-end.result in
    let found = ap spec.is_empty_code (sym c.section_at.ensures) ∙ sym c.is_empty_code.ensures ∙ c.if-is_empty_code.true in
    sym (c.loop-i.invariant.1 ∙ any_from b i n c.loop-i-test.true ∙ ap (λ t. t || list_any spec.is_empty_code (spec.sections_between b (i + 1) (n - (i + 1)))) found)

pub loop-i-preserved : goal.loop-i-preserved
loop-i-preserved c =
    let b = image_of c.args.elf.now in
    let i = c.loop-i.i in
    let n = c.section_count-i-end.result in
    let other = ap spec.is_empty_code (sym c.section_at.ensures) ∙ sym c.is_empty_code.ensures ∙ c.if-is_empty_code.false in (
      c.loop-i.invariant.0,
      c.loop-i.invariant.1 ∙ any_from b i n c.loop-i-test.true ∙ ap (λ t. t || list_any spec.is_empty_code (spec.sections_between b (i + 1) (n - (i + 1)))) other,
    )

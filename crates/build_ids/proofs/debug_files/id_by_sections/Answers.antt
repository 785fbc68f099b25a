use Rattle.std.proofs.Common.{List, ℕ, Bor, ◌+◌, ◌-◌, sym, ap, ◌∙◌}
use Rattle.std.specs.List.{flat_map}
use Rattle.std.specs.Option.{option_map, option_or}
use Rattle.elf_view.specs.ViewWords.{image_of}
use Rattle.build_ids.specs.BuildId.{id_among}
use Rattle.build_ids.specs.DebugFile as spec
use Rattle.build_ids.proofs.SectionRows.{section_ids_from}
use Rattle.build_ids.proofs.debug_files.id_by_sections.Goals as goal

pub returns-in-Some : goal.returns-in-Some
returns-in-Some c =
    let b = image_of c.args.elf.now in
    let i = c.loop-i.i in
    let n = c.section_count-i-end.result in
    let found = ap (option_map (λ (id : Bor (List ℕ)). id.now)) (sym c.in-Some.is) ∙ c.id_at.ensures ∙ ap (λ s. id_among (spec.section_notes s)) c.section_at.ensures in
    sym (c.loop-i.invariant.1 ∙ section_ids_from b i n c.loop-i-test.true ∙ ap (λ o. option_or o (id_among (flat_map spec.section_notes (spec.sections_between b (i + 1) (n - (i + 1)))))) (sym found))

pub loop-i-preserved : goal.loop-i-preserved
loop-i-preserved c =
    let b = image_of c.args.elf.now in
    let i = c.loop-i.i in
    let n = c.section_count-i-end.result in
    let none = ap (option_map (λ (id : Bor (List ℕ)). id.now)) (sym c.in_default.is) ∙ c.id_at.ensures ∙ ap (λ s. id_among (spec.section_notes s)) c.section_at.ensures in (
      c.loop-i.invariant.0,
      c.loop-i.invariant.1 ∙ section_ids_from b i n c.loop-i-test.true ∙ ap (λ o. option_or o (id_among (flat_map spec.section_notes (spec.sections_between b (i + 1) (n - (i + 1)))))) (sym none),
    )

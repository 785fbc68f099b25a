use Rattle.std.proofs.Common.{List, ℕ, Bor, ◌+◌, ◌-◌, sym, ap, ◌∙◌}
use Rattle.std.specs.Option.{option_map, option_or}
use Rattle.elf_view.specs.ViewWords.{image_of}
use Rattle.build_ids.specs.BuildId as spec
use Rattle.build_ids.proofs.HeaderPlaces.{ids_from}
use Rattle.build_ids.proofs.ids.id_of.Goals as goal

pub returns-in-Some : goal.returns-in-Some
returns-in-Some c =
    let b = image_of c.args.elf.now in
    let i = c.loop-i.i in
    let n = c.header-i-end.result.segments in
    let found = ap (option_map (λ (id : Bor (List ℕ)). id.now)) (sym c.in-Some.is) ∙ c.id_at.ensures in
    sym (c.loop-i.invariant.1 ∙ ids_from b i n c.loop-i-test.true ∙ ap (λ o. option_or o (spec.id_among (spec.notes_between b (i + 1) (n - (i + 1))))) (sym found))

pub loop-i-preserved : goal.loop-i-preserved
loop-i-preserved c =
    let b = image_of c.args.elf.now in
    let i = c.loop-i.i in
    let n = c.header-i-end.result.segments in
    let none = ap (option_map (λ (id : Bor (List ℕ)). id.now)) (sym c.in_default.is) ∙ c.id_at.ensures in (
      c.loop-i.invariant.0,
      c.loop-i.invariant.1 ∙ ids_from b i n c.loop-i-test.true ∙ ap (λ o. option_or o (spec.id_among (spec.notes_between b (i + 1) (n - (i + 1))))) (sym none),
    )

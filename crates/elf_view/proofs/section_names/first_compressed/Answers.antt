use Rattle.std.proofs.Common.{sym, ap, ◌∙◌, arith}
use Rattle.elf_view.specs.SectionNames as spec
use Rattle.elf_view.proofs.SectionPlaces.{find_on}
use Rattle.elf_view.proofs.section_names.first_compressed.Goals as goal

pub loop-i-preserved : goal.loop-i-preserved
loop-i-preserved c =
    let b = c.args.image.now in
    let is = spec.is_compressed c.args.names.now c.args.name.now in
    let other = ap is (sym c.nth_section-section.ensures) ∙ sym c.if-is_compressed.ensures in
    c.loop-i.invariant ∙ find_on (λ i. is (spec.nth_section b i)) c.loop-i.i c.args.count (omega arith) other

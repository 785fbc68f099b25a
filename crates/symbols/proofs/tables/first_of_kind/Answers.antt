use Rattle.std.proofs.Common.{sym, ap, ◌∙◌, eqb, arith}
use Rattle.std.proofs.lemmas.Bool.{ne_eqb}
use Rattle.elf_view.specs.ViewWords.{image_of}
use Rattle.elf_view.specs.SectionTable.{SectionView}
use Rattle.symbols.specs.SymbolTable as spec
use Rattle.symbols.proofs.Entries.{find_on}
use Rattle.symbols.proofs.tables.first_of_kind.Goals as goal

pub loop-i-preserved : goal.loop-i-preserved
loop-i-preserved c =
    let other = ap (λ (s : SectionView). eqb s.kind c.args.kind) (sym c.section.ensures) ∙ ne_eqb _ _ c.if-section-kind.false in
    c.loop-i.invariant ∙ find_on (spec.is_kind (image_of c.args.elf.now) c.args.kind) c.loop-i.i c.args.count (omega arith) other

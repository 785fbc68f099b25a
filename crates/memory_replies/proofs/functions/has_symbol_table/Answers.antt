use Rattle.std.proofs.Common.{◌+◌, ◌-◌, ◌≡◌, sym, ap, eqb, arith, ◌∙◌}
use Rattle.std.proofs.lemmas.Bool.{ne_eqb}
use Rattle.std.specs.Prelude.{◌||◌}
use Rattle.std.specs.List.{list_any, range_with_len}
use Rattle.elf_view.specs.ViewWords.{image_of}
use Rattle.symbols.specs.SymbolTable.{count_of_sections, is_kind}
use Rattle.memory_replies.specs.Naming.{has_symbol_table}
use Rattle.memory_replies.proofs.NamingLemmas.{any_on}
use Rattle.memory_replies.proofs.functions.has_symbol_table.Goals as goal

pub loop-i-init : goal.loop-i-init
unfolding has_symbol_table
loop-i-init c =
    let b = image_of c.args.elf.now in
    let n = c.section_count-i-end.result in
    let is = c.section_count-i-end.ensures in
    let all : count_of_sections b ≡ n - 0 = omega (arith, is) in
    (is, ap (λ k. list_any (is_kind b 2) (range_with_len 0 k)) all)

pub loop-i-preserved : goal.loop-i-preserved
loop-i-preserved c =
    let b = image_of c.args.elf.now in
    let i = c.loop-i.i in
    let n = c.section_count-i-end.result in
    let other = ap (λ k. eqb k 2) (sym c.kind_of.ensures) ∙ ne_eqb _ _ c.if-kind_of-eq-SHT_SYMTAB.false in
    (c.loop-i.invariant.0, c.loop-i.invariant.1 ∙ any_on (is_kind b 2) i n c.loop-i-test.true ∙ ap (λ t. t || list_any (is_kind b 2) (range_with_len (i + 1) (n - (i + 1)))) other)

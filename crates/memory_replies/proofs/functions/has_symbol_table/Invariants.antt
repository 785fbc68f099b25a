use Rattle.std.proofs.Common.{◌≡◌, ◌-◌}
use Rattle.std.specs.List.{list_any, range_with_len}
use Rattle.elf_view.specs.ViewWords.{image_of}
use Rattle.symbols.specs.SymbolTable.{count_of_sections, is_kind}
use Rattle.memory_replies.specs.Naming.{has_symbol_table}
use Rattle.memory_replies.proofs.functions.has_symbol_table.Given as goal

-- whether any of all sections is one of those that are left
abbrev pub invariant-loop-i : goal.invariant-loop-i
invariant-loop-i l =
    (l.i-end ≡ count_of_sections (image_of l.elf))
    × (has_symbol_table (image_of l.elf) ≡ list_any (is_kind (image_of l.elf) 2) (range_with_len l.i (l.i-end - l.i)))

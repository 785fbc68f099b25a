use Rattle.std.proofs.Common.{◌≡◌, ◌-◌, find}
use Rattle.std.specs.List.{range_with_len}
use Rattle.elf_view.specs.ViewWords.{image_of}
use Rattle.symbols.specs.SymbolTable as spec
use Rattle.symbols.proofs.tables.first_of_kind.Given as goal

-- the first of all is the first of those that are left
abbrev pub invariant-loop-i : goal.invariant-loop-i
invariant-loop-i l =
    find (spec.is_kind (image_of l.elf) l.kind) (range_with_len 0 (l.count - 0)) ≡ find (spec.is_kind (image_of l.elf) l.kind) (range_with_len l.i (l.count - l.i))

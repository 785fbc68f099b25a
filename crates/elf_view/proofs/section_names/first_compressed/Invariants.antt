use Rattle.std.proofs.Common.{◌≡◌, ◌-◌, find}
use Rattle.std.specs.List.{range_with_len}
use Rattle.elf_view.specs.SectionNames as spec
use Rattle.elf_view.proofs.section_names.first_compressed.Given as goal

-- the first of all is the first of those that are left
abbrev pub invariant-loop-i : goal.invariant-loop-i
invariant-loop-i l =
    find (λ i. spec.is_compressed l.names l.name (spec.nth_section l.image i)) (range_with_len 0 l.count)
    ≡ find (λ i. spec.is_compressed l.names l.name (spec.nth_section l.image i)) (range_with_len l.i (l.count - l.i))

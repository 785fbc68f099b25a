use Rattle.std.proofs.Common.{◌≡◌, ◌-◌}
use Rattle.std.specs.List.{list_any}
use Rattle.elf_view.specs.SectionTable.{section_count_of}
use Rattle.elf_view.specs.ViewWords.{image_of}
use Rattle.build_ids.specs.DebugFile as spec
use Rattle.build_ids.proofs.debug_files.has_empty_code.Given as goal

-- whether any of all sections is one of those that are left
abbrev pub invariant-loop-i : goal.invariant-loop-i
invariant-loop-i l =
    (l.i-end ≡ spec.counted (section_count_of (image_of l.elf)))
    × (list_any spec.is_empty_code (spec.sections_of (image_of l.elf)) ≡ list_any spec.is_empty_code (spec.sections_between (image_of l.elf) l.i (l.i-end - l.i)))

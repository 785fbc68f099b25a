use Rattle.std.proofs.Common.{◌≡◌, ◌-◌}
use Rattle.std.specs.List.{flat_map}
use Rattle.elf_view.specs.SectionTable.{section_count_of}
use Rattle.elf_view.specs.ViewWords.{image_of}
use Rattle.build_ids.specs.BuildId.{id_among}
use Rattle.build_ids.specs.DebugFile as spec
use Rattle.build_ids.proofs.debug_files.id_by_sections.Given as goal

-- the build ID of all sections is that of those that are left
abbrev pub invariant-loop-i : goal.invariant-loop-i
invariant-loop-i l =
    (l.i-end ≡ spec.counted (section_count_of (image_of l.elf)))
    × (id_among (flat_map spec.section_notes (spec.sections_of (image_of l.elf))) ≡ id_among (flat_map spec.section_notes (spec.sections_between (image_of l.elf) l.i (l.i-end - l.i))))

use Rattle.std.proofs.Common.{◌≡◌, ◌-◌}
use Rattle.elf_view.specs.Header.{segment_count}
use Rattle.elf_view.specs.ViewWords.{image_of}
use Rattle.build_ids.specs.BuildId as spec
use Rattle.build_ids.proofs.ids.id_of.Given as goal

-- the build ID of all headers is that of those that are left
abbrev pub invariant-loop-i : goal.invariant-loop-i
invariant-loop-i l =
    (l.i-end ≡ segment_count (image_of l.elf))
    × (spec.id_among (spec.notes_of (image_of l.elf)) ≡ spec.id_among (spec.notes_between (image_of l.elf) l.i (l.i-end - l.i)))

use Rattle.std.proofs.Common.{◌≡◌, find}
use Rattle.elf_view.specs.Header.{segments_of}
use Rattle.elf_view.specs.SegmentWords.{segments_left}
use Rattle.elf_view.specs.ViewWords.{image_of}
use Rattle.symbols.specs.Offsets as spec
use Rattle.symbols.proofs.offsets.vaddr_of_offset.Given as goal

-- the first of all is the first of those that are left
abbrev pub invariant-loop-segment : goal.invariant-loop-segment
invariant-loop-segment l =
    find (spec.has_offset l.offset) (segments_of (image_of l.elf)) ≡ find (spec.has_offset l.offset) (segments_left l.segments)

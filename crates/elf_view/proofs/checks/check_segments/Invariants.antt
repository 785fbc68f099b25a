use Rattle.std.proofs.Common.{◌≡◌}
use Rattle.elf_view.specs.Sound.{segment_checks, segment_fault, first_fault_among}
use Rattle.elf_view.specs.SegmentWords.{segments_left}
use Rattle.elf_view.proofs.checks.check_segments.Given as goal

-- the fault of all is that of what is left
abbrev pub invariant-loop-segment : goal.invariant-loop-segment
invariant-loop-segment l =
    segment_fault l.want l.image ≡ first_fault_among (segment_checks l.want l.image) l.index (segments_left l.segments)

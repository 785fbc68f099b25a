use Rattle.std.proofs.Common.{◌≡◌, find}
use Rattle.elf_view.specs.Header.{segments_of}
use Rattle.elf_view.specs.SegmentWords.{segments_left}
use Rattle.elf_view.specs.ViewWords.{image_of}
use Rattle.call_frames.specs.Tables as spec
use Rattle.call_frames.proofs.tables.bytes_at.Given as goal

-- the first of all is the first of those that are left
abbrev pub invariant-loop-segment : goal.invariant-loop-segment
invariant-loop-segment l =
    find (spec.has_address l.address) (segments_of (image_of l.elf)) ≡ find (spec.has_address l.address) (segments_left l.segments)

use Rattle.std.proofs.Common.{◌≡◌, ◌+◌, ◌++◌, map, length}
use Rattle.elf_view.specs.SegmentWords.{segments_left}
use Rattle.address_space.specs.Disjoint.{segment_extent, taking_from}
use Rattle.address_space.specs.ScanWords.{row_view}
use Rattle.address_space.proofs.row.segment_rows.Given as goal

-- those that take addresses are the ones that were put in and those that are left
abbrev pub invariant-loop-segment : goal.invariant-loop-segment
invariant-loop-segment l = record {
  whole : map row_view l.rows.items ++ taking_from l.number (map segment_extent (segments_left l.segments)) ≡ taking_from 0 (map segment_extent (segments_left l.initial.segments));
  count : l.number + length (segments_left l.segments) ≡ length (segments_left l.initial.segments);
}

use Rattle.std.proofs.Common.{◌≡◌, ◌≤◌, ◌+◌, ◌^◌, length}
use Rattle.elf_view.specs.Header.{loads_from}
use Rattle.elf_view.specs.SegmentWords.{segments_left}
use Rattle.elf_view.proofs.loads.Load.next.Given as goal

-- what was passed has none
abbrev pub invariant-loop-segment : goal.invariant-loop-segment
invariant-loop-segment l = record {
  same : loads_from l.initial.number (segments_left l.initial.segments) ≡ loads_from l.number (segments_left l.segments);
  few : l.number + length (segments_left l.segments) ≤ 2 ^ 32;
}

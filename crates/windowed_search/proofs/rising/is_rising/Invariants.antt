use Rattle.std.proofs.Common.{◌<◌, ◌^◌}
use Rattle.elf_view.specs.SegmentWords.{segments_left}
use Rattle.windowed_search.specs.Rising.{IsRising}
use Rattle.windowed_search.proofs.rising.is_rising.Given as goal

-- where those that are left rise from the last end on, all do
abbrev pub invariant-loop-segment : goal.invariant-loop-segment
invariant-loop-segment l = record {
  fits : l.past < 2 ^ 64;
  rises : IsRising l.past (segments_left l.segments) → IsRising 0 (segments_left l.initial.segments);
}

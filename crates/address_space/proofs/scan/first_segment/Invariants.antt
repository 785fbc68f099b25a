use Rattle.std.proofs.Common.{◌≡◌, ◌+◌, length}
use Rattle.elf_view.specs.Header.{SegmentView}
use Rattle.elf_view.specs.SegmentWords.{segments_left}
use Rattle.address_space.specs.Source.{span}
use Rattle.address_space.proofs.Scanning.{Scanned}
use Rattle.address_space.proofs.scan.first_segment.Given as goal

-- what is left answers as the whole on the addresses that are left
abbrev pub invariant-loop-segment : goal.invariant-loop-segment
invariant-loop-segment l = record {
  scan : Scanned (λ (s : SegmentView). s.vaddr) (λ (s : SegmentView). s.vaddr + span s) (segments_left l.initial.segments) l.fn.at l.fn.limit l.number (segments_left l.segments) l.length;
  count : l.number + length (segments_left l.segments) ≡ length (segments_left l.initial.segments);
}

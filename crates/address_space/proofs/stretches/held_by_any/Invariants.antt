use Rattle.std.proofs.Common.{◌≤◌, ℕ}
use Rattle.elf_view.specs.SegmentWords.{segments_left}
use Rattle.address_space.specs.Whole.{AreHeldWithin}
use Rattle.address_space.proofs.stretches.held_by_any.Given as goal

-- where those that are left have no bytes outside a wider range, none has
abbrev pub invariant-loop-segment : goal.invariant-loop-segment
invariant-loop-segment l = record {
  held : (start past : ℕ) → start ≤ l.held.start → l.held.past ≤ past → AreHeldWithin l.size l.first l.length start past (segments_left l.segments) → AreHeldWithin l.size l.first l.length start past (segments_left l.initial.segments);
  within : l.held.past ≤ l.size;
}

use Rattle.std.proofs.Common.{◌≡◌, find}
use Rattle.elf_view.specs.SegmentWords.{segments_left}
use Rattle.core_crashes.specs.Notes.{is_load_at}
use Rattle.core_crashes.proofs.notes.load_among.Given as goal

-- the first of all is the first of those that are left
abbrev pub invariant-loop-segment : goal.invariant-loop-segment
invariant-loop-segment l = find (is_load_at l.start) (segments_left l.fn.segments) ≡ find (is_load_at l.start) (segments_left l.rest)

use Rattle.std.proofs.Common.{◌≡◌}
use Rattle.elf_view.specs.NoteList as spec
use Rattle.elf_view.specs.SegmentWords.{segments_left}
use Rattle.elf_view.proofs.note_lists.next_note_bytes.Given as goal

-- what was passed has no notes
abbrev pub invariant-loop-segment : goal.invariant-loop-segment
invariant-loop-segment l = spec.all_rests (segments_left l.initial.segments) ≡ spec.all_rests (segments_left l.segments)

use Rattle.std.proofs.Common.{◌≡◌}
use Rattle.elf_view.specs.NoteList.{all_rests}
use Rattle.elf_view.specs.Sound.{note_checks, note_fault, first_fault_among}
use Rattle.elf_view.specs.declared.faults.Want.TheVariants.{Core}
use Rattle.elf_view.specs.SegmentWords.{segments_left}
use Rattle.elf_view.proofs.checks.check_core_notes.Given as goal

-- the fault of all is that of what is left
abbrev pub invariant-loop-segment : goal.invariant-loop-segment
invariant-loop-segment l = note_fault Core l.image ≡ first_fault_among note_checks l.index (all_rests (segments_left l.segments))

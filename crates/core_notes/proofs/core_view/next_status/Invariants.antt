use Rattle.std.proofs.Common.{◌≡◌}
use Rattle.elf_view.specs.NoteWords.{notes_left}
use Rattle.core_notes.specs.Typed.{AreStatusesWhole, all_descs}
use Rattle.core_notes.proofs.core_view.next_status.Given as goal

-- the notes that went by are no states of threads
abbrev pub invariant-loop-note : goal.invariant-loop-note
invariant-loop-note l = record {
  same : all_descs 1 (notes_left l.initial.notes) ≡ all_descs 1 (notes_left l.notes);
  whole : AreStatusesWhole (notes_left l.notes);
}

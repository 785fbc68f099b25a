use Rattle.std.proofs.Common.{◌≡◌, ◌++◌, map}
use Rattle.elf_view.specs.NoteWords.{note_view, notes_left}
use Rattle.core_notes.specs.NoteWords.{first_view}
use Rattle.core_notes.specs.Typed.{core_fault, first_note_fault, first_descs}
use Rattle.core_notes.proofs.first_notes.first_notes.Given as goal

-- the notes are those that went by and those that are left; the fault of all is that of what is left
abbrev pub invariant-loop-note : goal.invariant-loop-note
invariant-loop-note l = record {
  split : notes_left l.fn.notes ≡ map note_view l.yielded ++ notes_left l.notes;
  first : first_view l.first ≡ first_descs (map note_view l.yielded);
  fault : core_fault (notes_left l.fn.notes) ≡ first_note_fault (map note_view l.yielded) l.index (notes_left l.notes);
}

-- The meaning of the code's note.
use Rattle.build_ids.specs.Notes.{NoteView}
use Rattle.build_ids.specs.declared.notes.Note.{Note}

abbrev pub note_view : Note → NoteView
note_view n = record { name = n.name.now; kind = n.kind; desc = n.desc.now }

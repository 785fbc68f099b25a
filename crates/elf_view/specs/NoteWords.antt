-- The meaning of the code's notes, and of an iterator over them.
use Rattle.std.specs.Prelude.{List, map}
use Rattle.elf_view.specs.NoteList.{NoteView, note_at, rests_left}
use Rattle.elf_view.specs.SegmentWords.{segments_left}
use Rattle.elf_view.specs.declared.note_lists.Note.{Note}
use Rattle.elf_view.specs.declared.note_lists.Notes.{Notes}

abbrev pub note_view : Note → NoteView
note_view n = record { name = n.name.now; kind = n.kind; desc = n.desc.now }

-- the notes that are still to come: the rest of one segment's, then those of the segments after it
unfoldable pub notes_left : Notes → List NoteView
notes_left n = map note_at (rests_left n.rest.now (segments_left n.segments))

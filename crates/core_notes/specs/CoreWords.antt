-- The meaning of the code's view of a core's notes, and of an iterator over its threads' states.
use Rattle.std.specs.Prelude.{ℕ, List}
use Rattle.elf_view.specs.NoteList.{NoteView}
use Rattle.elf_view.specs.NoteWords.{notes_left}
use Rattle.core_notes.specs.Typed.{all_descs}
use Rattle.core_notes.specs.declared.core_view.CoreNotes.{CoreNotes}
use Rattle.core_notes.specs.declared.core_view.Statuses.{Statuses}

-- the notes of the core
abbrev pub notes_seen : CoreNotes → List NoteView
notes_seen c = notes_left c.notes

-- the descriptors of the NT_PRSTATUS that are still to come
unfoldable pub statuses_left : Statuses → List (List ℕ)
statuses_left s = all_descs 1 (notes_left s.notes)

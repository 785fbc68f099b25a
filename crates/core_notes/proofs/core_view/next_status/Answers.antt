use Rattle.std.proofs.Common.{sym}
use Rattle.elf_view.specs.NoteWords.{note_view}
use Rattle.core_notes.proofs.Looking.{status_size}
use Rattle.core_notes.proofs.core_view.next_status.Goals as goal

pub new-requires : goal.new-requires
new-requires c =
    status_size _ _ (note_view c.in-Some.note) c.in-Some.ensures.steps c.loop-note.invariant.whole (sym c.if-is_typed.ensures)

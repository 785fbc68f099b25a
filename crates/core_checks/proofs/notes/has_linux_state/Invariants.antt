use Rattle.std.proofs.Common.{◌≡◌}
use Rattle.std.specs.List.{list_any}
use Rattle.elf_view.specs.NoteWords.{notes_left}
use Rattle.core_checks.specs.Unread.{is_linux_state}
use Rattle.core_checks.proofs.notes.has_linux_state.Given as goal

-- whether one of all is so is whether one of those that are left is
abbrev pub invariant-loop-note : goal.invariant-loop-note
invariant-loop-note l = list_any is_linux_state (notes_left l.fn.notes) ≡ list_any is_linux_state (notes_left l.rest)

use Rattle.std.proofs.Common.{◌<◌, ◌+◌, ◌^◌, length}
use Rattle.script_streams.specs.Printing.{sink}
use Rattle.elf_view.specs.NoteWords.{notes_left}
use Rattle.image_replies.specs.Lines.{numbered_lines}
use Rattle.image_replies.specs.Notes.{note_line}
use Rattle.image_replies.proofs.TextLemmas.{PrintsFront}
use Rattle.image_replies.proofs.note_lines.print_note_lines.Given as goal

-- the lines of what is left are still to be told
abbrev pub invariant-loop-note : goal.invariant-loop-note
invariant-loop-note g l = record {
  told : PrintsFront (sink g.O.Output l.initial.reply) (sink g.O.Output l.reply) (numbered_lines note_line 0 (notes_left l.fn.notes)) (numbered_lines note_line l.index (notes_left l.rest));
  few : l.index + length (notes_left l.rest) < 2 ^ 128;
}

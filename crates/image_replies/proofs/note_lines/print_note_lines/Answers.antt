use Rattle.std.proofs.Common.{arith, ap, length}
use Rattle.image_replies.specs.Lines.{numbered_lines}
use Rattle.image_replies.specs.Notes.{note_line}
use Rattle.image_replies.proofs.TextLemmas.{front_begins, front_grows, front_ends}
use Rattle.image_replies.proofs.note_lines.print_note_lines.Goals as goal

pub loop-note-init : goal.loop-note-init
loop-note-init g c = record { told = front_begins; few = omega arith }

pub overflow_add-index : goal.overflow_add-index
overflow_add-index g c = omega (arith, c.loop-note.invariant.few, ap length c.in-Some.ensures.steps)

pub loop-note-preserved : goal.loop-note-preserved
loop-note-preserved g c = record {
  told = front_grows c.loop-note.invariant.told (ap (numbered_lines note_line c.loop-note.index) c.in-Some.ensures.steps) c.print_note_line.ensures;
  few = omega (arith, c.loop-note.invariant.few, ap length c.in-Some.ensures.steps);
}

pub returns : goal.returns
returns g c = front_ends c.loop-note.invariant.told (ap (numbered_lines note_line c.loop-note.index) c.in_default.ensures.steps.0)

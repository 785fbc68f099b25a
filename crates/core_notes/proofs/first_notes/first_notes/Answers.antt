use Rattle.std.proofs.Common.{◌++◌, ◌∷◌, [], map, sym, ap, ◌∙◌}
use Rattle.std.proofs.lemmas.List.{map-append, append_assoc}
use Rattle.elf_view.specs.NoteWords.{note_view, notes_left}
use Rattle.core_notes.specs.Typed.{first_descs, next_descs, fault_after, first_note_fault}
use Rattle.core_notes.proofs.Looking.{first_descs-push, note_passes, note_fails, no_notes}
use Rattle.core_notes.proofs.first_notes.first_notes.Goals as goal

pub returns-in-Err-clause-fault : goal.returns-in-Err-clause-fault
returns-in-Err-clause-fault c =
    let before = map note_view c.loop-note.yielded in
    let n = note_view c.in-Some.note in
    sym (c.loop-note.invariant.fault ∙ note_fails before _ _ _ n _ c.in-Some.ensures.steps (c.in-Err.ensures.fault ∙ ap (λ f. fault_after f n) c.loop-note.invariant.first))

pub loop-note-preserved : goal.loop-note-preserved
loop-note-preserved c =
    let before = map note_view c.loop-note.yielded in
    let n = note_view c.in-Some.note in
    let rest = notes_left c.next.new.self in
    let grown = map-append note_view c.loop-note.yielded (c.in-Some.note ∷ []) in
    record {
      split = c.loop-note.invariant.split ∙ ap (λ notes. before ++ notes) c.in-Some.ensures.steps ∙ sym (append_assoc before (n ∷ []) rest) ∙ ap (λ notes. notes ++ rest) (sym grown);
      first = c.in-Ok.ensures.next ∙ ap (λ f. next_descs f n) c.loop-note.invariant.first ∙ sym (first_descs-push before n) ∙ ap first_descs (sym grown);
      fault = c.loop-note.invariant.fault ∙ note_passes before _ _ _ n c.in-Some.ensures.steps (c.in-Ok.ensures.fault ∙ ap (λ f. fault_after f n) c.loop-note.invariant.first)
          ∙ ap (λ i. first_note_fault (before ++ n ∷ []) i rest) (sym c.saturating_add-index.ensures)
          ∙ ap (λ notes. first_note_fault notes c.saturating_add-index.result rest) (sym grown);
    }

pub returns-clause-fault : goal.returns-clause-fault
returns-clause-fault c = sym (c.loop-note.invariant.fault ∙ no_notes _ _ _ c.in_default.ensures.steps.0)

use Rattle.std.proofs.Common.{[], List, ℕ, ◌==◌, length, refl, ap, subst, ◌∙◌, inl}
use Rattle.std.proofs.lemmas.Bool.{both_ways}
use Rattle.command_words.specs.Notes.{IsQuietButForANote}
use Rattle.command_words.proofs.notes.print_notes.Goals as goal

pub returns-then-not-may_note-clause-notes : goal.returns-then-not-may_note-clause-notes
returns-then-not-may_note-clause-notes g c = (c.args.errors.now, inl refl, inl refl, λ _. refl)

pub returns-then-is_empty-clause-notes : goal.returns-then-is_empty-clause-notes
returns-then-is_empty-clause-notes g c =
    let noted = subst (λ on. IsQuietButForANote on g.E.Output c.args.errors.now c.print_note_line.new.errors) c.subject.ensures c.print_note_line.ensures in
    (c.print_note_line.new.errors, noted, inl refl, λ _. refl)

pub returns-clause-quiet : goal.returns-clause-quiet
returns-clause-quiet g c none = absurd (both_ways c.may_note.result (c.may_note.ensures ∙ none) c.if-not-may_note.false)

pub returns-clause-notes : goal.returns-clause-notes
returns-clause-notes g c =
    let noted = subst (λ on. IsQuietButForANote on g.E.Output c.args.errors.now c.print_note_line.new.errors) c.subject.ensures c.print_note_line.ensures in
    let second = subst (λ on. IsQuietButForANote on g.E.Output c.print_note_line.new.errors c.print_note_line-2.new.errors) c.second_subject-on.ensures c.print_note_line-2.ensures in (
      c.print_note_line.new.errors,
      noted,
      second,
      λ none. absurd (both_ways c.is_empty.result c.if-is_empty.false (c.is_empty.ensures ∙ ap (λ (on : List ℕ). length on == 0) (c.second_subject-on.ensures ∙ none))),
    )

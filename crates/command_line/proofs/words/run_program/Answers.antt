use Rattle.std.proofs.Common.{inl, [], ◌∷◌, List, String, refl, string_bytes}
use Rattle.command_words.specs.Notes.{IsQuietButForNotes, IsQuietButForSomeNotes, second_subject, subject}
use Rattle.script_streams.specs.declared.streams.Output as output
use Rattle.command_line.proofs.words.run_program.Goals as goal

-- notes of some words are notes of their first word, if they have one
some_notes : {Z E : Type 0} → (words : List (String Z)) (g : output.Ghosts E) (old new : E) → IsQuietButForNotes (subject words) (second_subject words) g old new → IsQuietButForSomeNotes g old new
some_notes [] g old new quiet = ([], quiet)
some_notes (word ∷ words) g old new quiet = (string_bytes word, quiet)

pub returns-in-Ok-clause-quiet : goal.returns-in-Ok-clause-quiet
returns-in-Ok-clause-quiet g c = λ zero. some_notes c.as_slice.result.now g.E.Output c.args.errors.now c.run_watched.new.errors (c.run_watched.ensures.notes zero)

pub returns-in-Err-clause-quiet : goal.returns-in-Err-clause-quiet
returns-in-Err-clause-quiet g c = λ zero.
    let same = c.print_ending.ensures.quiet zero in
    ([], (c.args.errors.now, inl refl, inl same, λ other. same))

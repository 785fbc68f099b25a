use Rattle.std.proofs.Common.{subst, sym}
use Rattle.command_words.specs.Notes.{IsQuietButForNotes, second_subject, subject}
use Rattle.command_line.proofs.words.run_watched.Goals as goal

pub returns-clause-notes : goal.returns-clause-notes
returns-clause-notes g c zero =
    subst (IsQuietButForNotes (subject c.args.words.now) (second_subject c.args.words.now) g.E.Output c.args.errors.now) (sym (c.print_ending.ensures.quiet zero)) c.print_notes.ensures.notes

use Rattle.std.proofs.Common.{[], inr, rules}
use Rattle.command_words.specs.Notes.{note_line}
use Rattle.command_words.proofs.NoteLemmas.{front_delivered}
use Rattle.command_words.proofs.notes.print_note_line.Goals as goal

pub returns : goal.returns
returns g c =
    let begin = c.print.ensures _ _ _ [] c.new-reply.ensures.told in
    let subject = c.print-2.ensures _ _ _ _ begin in
    let note = c.print-3.ensures _ _ _ _ subject in
    let all = c.print-4.ensures _ _ _ _ note in
    let taken = c.finish.ensures.delivered _ _ _ _ all in
    let front = front_delivered (g.E.Output.taken c.args.errors.now) (g.E.Output.taken c.finish.new.self.output.now) (g.E.Output.failures c.args.errors.now) (g.E.Output.failures c.finish.new.self.output.now) (note_line c.args.subject.now c.args.note.now) c.finish.result (search (taken, rules)) in
    inr (c.args.note.now, front.0, front.1, front.2, search (all.same, c.finish.ensures.same, front.3, rules))

use Rattle.std.proofs.Common.{Ok, Err, refl}
use Rattle.archive_files.proofs.look_session.answer_look.Goals as goal

pub returns-in-Ok : goal.returns-in-Ok
returns-in-Ok g c =
    let O = g.O.Output in
    (O.taken c.ask_looked.new.output, O.failures c.ask_looked.new.output, Ok c.in-Ok.field-0, c.in-Ok.ensures, (refl, refl, refl))

pub returns-in-Err : goal.returns-in-Err
returns-in-Err g c =
    let O = g.O.Output in
    (O.taken c.ask_looked.new.output, O.failures c.ask_looked.new.output, Err c.in-Err.failure, c.in-Err.ensures, c.go_on.ensures)

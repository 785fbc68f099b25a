use Rattle.std.proofs.Common.{Ok, Err, [], refl, sym, ◌∙◌}
use Rattle.std.proofs.lemmas.Result.{err_from_is_err_and}
use Rattle.inspector_cli.specs.Session.{complete, last_line}
use Rattle.inspector_cli.proofs.LineLemmas.{halts_as, line_answered}
use Rattle.script_streams.specs.Printing.{sink}
use Rattle.script_streams.specs.PrintLaws.{prints_nothing, prints_then}
use Rattle.inspector_cli.proofs.script.answer_command.Goals as goal

pub returns-in-NothingLeft-clause-answers : goal.returns-in-NothingLeft-clause-answers
returns-in-NothingLeft-clause-answers g c =
    let read = rw c.in-NothingLeft.is at c.in_ok-ending.ensures.gives in (
      complete,
      tt,
      read.0,
      read.1,
      [],
      (refl, refl),
      c.in_ok-ending.ensures.states,
      record { from = sink g.O.Output c.next_line.new.reply; before = c.in_ok-ending.ensures.states; ready = record { unfailed = sym c.has_failed.ensures.failed ∙ c.if-has_failed.false; few = c.has_failed.ensures.few }; states = prints_nothing },
    )

pub returns-in-EndOfInput-clause-answers : goal.returns-in-EndOfInput-clause-answers
returns-in-EndOfInput-clause-answers g c =
    let line = rw c.in-EndOfInput.is at c.in_ok-ending.ensures.gives in
    let last = c.answer_last.ensures.answers line.0 line.2 in (
      last_line line.0,
      (line.1, line.3),
      line.4,
      line.5,
      last.0,
      last.1,
      prints_then c.in_ok-ending.ensures.states last.2,
      record { from = sink g.O.Output c.next_line.new.reply; before = c.in_ok-ending.ensures.states; ready = record { unfailed = sym c.has_failed.ensures.failed ∙ c.if-has_failed.false; few = c.has_failed.ensures.few }; states = last.2 },
    )

pub returns-in_ok-goes_on-in-Newline-clause-answers : goal.returns-in_ok-goes_on-in-Newline-clause-answers
returns-in_ok-goes_on-in-Newline-clause-answers g c =
    let line = rw c.in-Newline.is at c.in_ok-ending.ensures.gives in
    line_answered g.D.Disk c.args.naming.now (g.I.Input.remaining c.args.input.now) (g.I.Input.remaining c.next_line.new.input) (g.I.Input.remaining c.answer_line.new.input)
    c.args.buffer.now c.next_line.new.self c.answer_line.new.buffer c.args.archive.now c.answer_line.new.archive
    line.0 line.1 line.3 _ _ _ c.in_ok-ending.ensures.states (record { unfailed = sym c.has_failed.ensures.failed ∙ c.if-has_failed.false; few = c.has_failed.ensures.few })
    (Ok c.in_ok-goes_on-in-Newline.goes_on) (c.in_ok-goes_on-in-Newline.ensures.answers line.0 line.2)

pub returns-in_err-goes_on-in-Newline-clause-answers : goal.returns-in_err-goes_on-in-Newline-clause-answers
returns-in_err-goes_on-in-Newline-clause-answers g c =
    let p = err_from_is_err_and c.from_residual-in_err-goes_on-in-Newline.result c.from_residual-in_err-goes_on-in-Newline.ensures.1 in
    let line = rw c.in-Newline.is at c.in_ok-ending.ensures.gives in
    rw (p.1, p.2) (line_answered g.D.Disk c.args.naming.now (g.I.Input.remaining c.args.input.now) (g.I.Input.remaining c.next_line.new.input) (g.I.Input.remaining c.answer_line.new.input)
    c.args.buffer.now c.next_line.new.self c.answer_line.new.buffer c.args.archive.now c.answer_line.new.archive
    line.0 line.1 line.3 _ _ _ c.in_ok-ending.ensures.states (record { unfailed = sym c.has_failed.ensures.failed ∙ c.if-has_failed.false; few = c.has_failed.ensures.few })
    (Err (c.in_err-goes_on-in-Newline.field-0.0)) (c.in_err-goes_on-in-Newline.ensures.answers line.0 line.2))

pub returns-in_err-goes_on-in-Newline-clause-stops : goal.returns-in_err-goes_on-in-Newline-clause-stops
returns-in_err-goes_on-in-Newline-clause-stops g c =
    let p = err_from_is_err_and c.from_residual-in_err-goes_on-in-Newline.result c.from_residual-in_err-goes_on-in-Newline.ensures.1 in
    rw (p.1, p.2) (halts_as _ _ _ c.answer_line.new.buffer c.in_err-goes_on-in-Newline.field-0.0 c.in_ok-ending.ensures.stops c.in_err-goes_on-in-Newline.ensures.stops)

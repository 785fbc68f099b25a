use Rattle.script_streams.specs.Replies.{printing}
use Rattle.std.proofs.Common.{subst}
use Rattle.script_lines.specs.Said.{Said, said}
use Rattle.inspector_cli.specs.Answering.{PartAnswers}
use Rattle.inspector_cli.proofs.LineLemmas.{plain_answers, question_answers}
use Rattle.inspector_cli.proofs.script.answer_line.Goals as goal

pub returns-in-Part-clause-answers : goal.returns-in-Part-clause-answers
returns-in-Part-clause-answers g c = λ text keeps.
    subst
    (λ (w : Said).
    PartAnswers g.D.Disk c.args.naming.now
    (record {
      before = g.I.Input.remaining c.args.input.now;
      after = g.I.Input.remaining c.answer_part.new.input;
      buffer = c.args.buffer.now;
      buffer' = c.answer_part.new.buffer;
    })
    (printing g.O.Output c.args.reply.now c.answer_part.new.reply)
    c.args.archive.now w c.answer_part.new.archive c.answer_part.result)
    (c.in-Part.ensures text keeps) (c.answer_part.ensures.answers c.args.naming.now)

pub returns-in-Plain-clause-answers : goal.returns-in-Plain-clause-answers
returns-in-Plain-clause-answers g c = λ text keeps.
    plain_answers g.D.Disk c.args.naming.now (g.I.Input.remaining c.args.input.now) c.args.buffer.now _ c.args.archive.now c.answer_plain.new.archive c.in-Plain.request (said text)
    (c.in-Plain.ensures text keeps) c.answer_plain.ensures

pub returns-in-Ask-clause-answers : goal.returns-in-Ask-clause-answers
returns-in-Ask-clause-answers g c = λ text keeps.
    question_answers g.D.Disk c.args.naming.now (g.I.Input.remaining c.args.input.now) c.args.buffer.now _ c.args.archive.now c.answer_question.new.archive c.in-Ask.question (said text) c.answer_question.result
    (c.in-Ask.ensures text keeps) (rw c.choosing.ensures at c.answer_question.ensures.answers)

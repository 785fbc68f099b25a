use Rattle.script_streams.specs.Replies.{printing}
use Rattle.std.proofs.Common.{subst}
use Rattle.script_lines.specs.Said.{Said, said}
use Rattle.inspector_cli.specs.Answering.{LastAnswers}
use Rattle.inspector_cli.proofs.LineLemmas.{plain_last, question_last}
use Rattle.inspector_cli.proofs.script.answer_last.Goals as goal

pub returns-in-Part-clause-answers : goal.returns-in-Part-clause-answers
returns-in-Part-clause-answers g c = λ text keeps.
    subst
    (λ (w : Said).
    LastAnswers g.D.Disk c.args.naming.now
    (printing g.O.Output c.args.reply.now c.answer_cut.new.reply)
    c.args.archive.now w c.answer_cut.new.archive)
    (c.in-Part.ensures text keeps) (c.answer_cut.ensures c.args.naming.now)

pub returns-in-Plain-clause-answers : goal.returns-in-Plain-clause-answers
returns-in-Plain-clause-answers g c = λ text keeps.
    plain_last g.D.Disk c.args.naming.now _ c.args.archive.now c.answer_plain.new.archive c.in-Plain.request (said text) (c.in-Plain.ensures text keeps) c.answer_plain.ensures

pub returns-in-Ask-clause-answers : goal.returns-in-Ask-clause-answers
returns-in-Ask-clause-answers g c = λ text keeps.
    question_last g.D.Disk c.args.naming.now _ c.args.archive.now c.answer_question.new.archive c.in-Ask.question (said text) c.answer_question.result (c.in-Ask.ensures text keeps) (rw c.choosing.ensures at c.answer_question.ensures.answers)

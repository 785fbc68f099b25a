use Rattle.inspector_cli.proofs.answers.answer_question.Goals as goal

pub returns-in-Inspect-clause-answers : goal.returns-in-Inspect-clause-answers
returns-in-Inspect-clause-answers g c =
    let told = c.answer_query.ensures.answers in
    rw c.in-Inspect.is (told.0, (λ naming by_path. rw by_path told.1), told.2, told.3)

pub returns-in-Call-clause-answers : goal.returns-in-Call-clause-answers
returns-in-Call-clause-answers g c = rw c.in-Call.is c.answer_call.ensures

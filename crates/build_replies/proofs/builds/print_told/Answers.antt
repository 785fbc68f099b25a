use Rattle.std.proofs.Common.{List, Some, map, sym, ap, ◌∙◌}
use Rattle.std.specs.Option.{option_map}
use Rattle.address_space.specs.SpaceWords.{attached_view}
use Rattle.build_replies.specs.Builds.{builds_answer, printed, values_of}
use Rattle.build_replies.specs.BuildsWords.{asking_view}
use Rattle.build_replies.specs.Mapped.{answers_view, build_view}
use Rattle.build_replies.specs.declared.answers.BuildAnswer.{BuildAnswer}
use Rattle.build_replies.proofs.AnswerLemmas.{refused}
use Rattle.build_replies.proofs.builds.print_told.Goals as goal

pub returns-in-Ok-None : goal.returns-in-Ok-None
unfolding builds_answer
returns-in-Ok-None g c image told =
    let none = ap (option_map (values_of (map attached_view c.args.stored.now))) told ∙ sym c.in-Ok-None.ensures ∙ ap answers_view c.in-Ok-None.field-0-is in
    (_, refused _ _ (ap (printed (asking_view c.args.asked)) (sym none)), c.print_no.ensures)

pub returns-in-Ok-Some : goal.returns-in-Ok-Some
returns-in-Ok-Some g c image told =
    c.print_rows.ensures image (map attached_view c.args.stored.now)
    (ap (option_map (values_of (map attached_view c.args.stored.now))) told ∙ sym c.in-Ok-Some.ensures ∙ ap answers_view c.in-Ok-Some.field-0-is
    ∙ ap (λ (rows : List BuildAnswer). Some (map build_view rows)) (sym c.deref.ensures.value))

use Rattle.std.proofs.Common.{ℕ, List, refl, subst}
use Rattle.intake.specs.Calls.{LabelCall}
use Rattle.archive_replies.specs.Texts.{plain_reply}
use Rattle.inspector_cli.proofs.answers.answer_label.Goals as goal

pub returns : goal.returns
returns g c =
    let call = subst (λ (text : List ℕ). LabelCall g.D.Disk c.args.archive.now c.args.seq text c.label-outcome.result c.label-outcome.new.self) c.as_slice.ensures.value c.label-outcome.ensures in (
      plain_reply c.label-outcome.result,
      ((c.label-outcome.result, call, refl), c.is_ok-is_carried_out.ensures.value),
      c.print_outcome.ensures,
    )

use Rattle.std.proofs.Common.{refl}
use Rattle.archive_replies.specs.Texts.{retire_reply}
use Rattle.inspector_cli.proofs.answers.answer_retire.Goals as goal

pub returns : goal.returns
returns g c =
    let call = c.retire-outcome.ensures in (
      retire_reply c.retire-outcome.result,
      ((c.retire-outcome.result, call, refl), c.is_ok-is_carried_out.ensures.value),
      c.print_retired.ensures,
    )

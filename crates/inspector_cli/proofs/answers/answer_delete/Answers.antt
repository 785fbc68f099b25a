use Rattle.std.proofs.Common.{refl}
use Rattle.archive_replies.specs.Texts.{plain_reply}
use Rattle.inspector_cli.proofs.answers.answer_delete.Goals as goal

pub returns : goal.returns
returns g c =
    let call = c.delete-outcome.ensures in (
      plain_reply c.delete-outcome.result,
      ((c.delete-outcome.result, call, refl), c.is_ok-is_carried_out.ensures.value),
      c.print_outcome.ensures,
    )

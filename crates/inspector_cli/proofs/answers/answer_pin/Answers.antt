use Rattle.std.proofs.Common.{refl}
use Rattle.archive_replies.specs.Texts.{plain_reply}
use Rattle.inspector_cli.proofs.answers.answer_pin.Goals as goal

pub returns : goal.returns
returns g c =
    let call = c.pin-outcome.ensures in (
      plain_reply c.pin-outcome.result,
      ((c.pin-outcome.result, call, refl), c.is_ok-is_carried_out.ensures.value),
      c.print_outcome.ensures,
    )

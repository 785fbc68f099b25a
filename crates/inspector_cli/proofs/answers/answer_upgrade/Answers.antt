use Rattle.std.proofs.Common.{refl}
use Rattle.archive_replies.specs.Texts.{plain_reply}
use Rattle.inspector_cli.proofs.answers.answer_upgrade.Goals as goal

pub returns : goal.returns
returns g c =
    let call = c.upgrade-outcome.ensures in (
      plain_reply c.upgrade-outcome.result,
      ((c.upgrade-outcome.result, call, refl), c.is_ok-is_carried_out.ensures.value),
      c.print_outcome.ensures,
    )

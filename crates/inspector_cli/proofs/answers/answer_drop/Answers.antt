use Rattle.std.proofs.Common.{refl}
use Rattle.archive_replies.specs.Texts.{plain_reply}
use Rattle.inspector_cli.proofs.answers.answer_drop.Goals as goal

pub returns : goal.returns
returns g c =
    let call = c.abandon-outcome.ensures in (
      plain_reply c.abandon-outcome.result,
      (
        c.abandon-outcome.result,
        call,
        refl,
      ),
      c.print_outcome.ensures,
    )

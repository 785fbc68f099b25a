use Rattle.std.proofs.Common.{refl}
use Rattle.archive_replies.specs.Texts.{end_reply}
use Rattle.inspector_cli.proofs.answers.answer_end.Goals as goal

pub returns : goal.returns
returns g c =
    let call = c.finish-outcome.ensures in (
      end_reply c.finish-outcome.result,
      (
        c.finish-outcome.result,
        call,
        refl,
        c.ok-stored.ensures.value,
      ),
      c.print_stored.ensures,
    )

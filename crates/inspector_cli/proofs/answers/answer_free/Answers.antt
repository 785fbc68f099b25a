use Rattle.std.proofs.Common.{refl}
use Rattle.archive_replies.specs.Texts.{free_reply}
use Rattle.inspector_cli.proofs.answers.answer_free.Goals as goal

pub returns : goal.returns
returns g c =
    let counted = c.free_blocks-counted.ensures in
    (free_reply c.free_blocks-counted.result, ((c.free_blocks-counted.result, counted, refl, refl), c.is_ok-is_carried_out.ensures.value), c.print_free.ensures)

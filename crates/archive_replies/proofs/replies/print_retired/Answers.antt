use Rattle.std.proofs.Common.{ap, sym, ◌∙◌}
use Rattle.archive_replies.specs.Texts.{retire_reply}
use Rattle.script_streams.specs.Replies.{no_reply}
use Rattle.script_streams.specs.PrintLaws.{prints_as}
use Rattle.archive_replies.proofs.replies.print_retired.Goals as goal

pub returns-in-Err : goal.returns-in-Err
returns-in-Err g c = prints_as (ap no_reply c.reason.ensures ∙ ap retire_reply (sym c.in-Err.is)) c.print_no.ensures

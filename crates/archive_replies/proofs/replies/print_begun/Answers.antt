use Rattle.std.proofs.Common.{ap, sym, ◌∙◌}
use Rattle.archive_replies.specs.Texts.{begin_reply}
use Rattle.script_streams.specs.Replies.{no_reply}
use Rattle.script_streams.specs.PrintLaws.{prints_then, prints_as}
use Rattle.archive_replies.proofs.replies.print_begun.Goals as goal

pub returns-in-Ok : goal.returns-in-Ok
returns-in-Ok g c =
    prints_as (ap (begin_reply c.args.name.now) (sym c.in-Ok.is))
    (prints_then (prints_then (prints_then c.print.ensures c.print_text.ensures) c.print-in-Ok.ensures) c.print_ok.ensures)

pub returns-in-Err : goal.returns-in-Err
returns-in-Err g c =
    prints_as (ap no_reply c.reason.ensures ∙ ap (begin_reply c.args.name.now) (sym c.in-Err.is)) c.print_no.ensures

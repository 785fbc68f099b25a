use Rattle.std.proofs.Common.{◌++◌, Ok, Err, refl}
use Rattle.archive_replies.specs.Texts.{end_reply}
use Rattle.inspector_cli.specs.Storing.{cut_line}
use Rattle.script_streams.specs.PrintLaws.{prints_then}
use Rattle.inspector_cli.proofs.front.answer_front.Goals as goal

pub returns-in-Ok : goal.returns-in-Ok
returns-in-Ok g c =
    (cut_line c.args.kept ++ end_reply (Ok c.in-Ok.seq), (end_reply (Ok c.in-Ok.seq), refl, (Ok c.in-Ok.seq, c.in-Ok.ensures, refl, refl)), prints_then c.print_cut.ensures c.print_stored.ensures)

pub returns-in-Err : goal.returns-in-Err
returns-in-Err g c =
    (end_reply (Err c.in-Err.field-0), (end_reply (Err c.in-Err.field-0), refl, (Err c.in-Err.field-0, c.in-Err.ensures, refl, refl)), rw c.in-Err.is at c.print_stored-in-Err.ensures)

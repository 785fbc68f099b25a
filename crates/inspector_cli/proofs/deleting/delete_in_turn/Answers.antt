use Rattle.std.proofs.Common.{◌++◌, Ok, Err, refl, ap}
use Rattle.std.specs.List.{flat_map}
use Rattle.archive_replies.specs.Texts.{dropped_line}
use Rattle.script_streams.specs.Replies.{no_reply}
use Rattle.script_streams.specs.PrintLaws.{prints_as, prints_then}
use Rattle.inspector_cli.specs.Deleting.{ending_of}
use Rattle.inspector_cli.proofs.deleting.delete_in_turn.Goals as goal

pub returns-in-Ok : goal.returns-in-Ok
returns-in-Ok g c =
    let e = c.in-Ok.ensures in
    (flat_map dropped_line e.1.0 ++ ending_of c.args.unmet (Ok tt), (Ok tt, e.1.0, e.1.1, refl, refl), prints_then (prints_as e.1.2 e.2) (prints_then c.print_unmet.ensures c.print_ok.ensures))

pub returns-in-Err : goal.returns-in-Err
returns-in-Err g c =
    let e = c.in-Err.ensures in
    (flat_map dropped_line e.1.0 ++ ending_of c.args.unmet (Err c.in-Err.fault), (Err c.in-Err.fault, e.1.0, e.1.1, refl, refl), prints_then (prints_as e.1.2 e.2) (prints_as (ap no_reply c.reason.ensures) c.print_no.ensures))

use Rattle.std.proofs.Common.{[]}
use Rattle.script_streams.specs.PrintLaws.{prints_nothing}
use Rattle.stream_names.specs.Commands.{stream_begun, stream_found}
use Rattle.inspector_cli.proofs.RetiredLemmas.{retires_for_named, retires_for_none, retires_nothing}
use Rattle.inspector_cli.proofs.retiring.retire_first.Goals as goal

pub returns-in_default : goal.returns-in_default
returns-in_default g c = ([], retires_nothing g.D.Disk c.args.archive.now c.args.policy (stream_found c.args.found.now) c.in_default.is, prints_nothing)

pub returns-in-Ok : goal.returns-in-Ok
returns-in-Ok g c =
    let e = c.retire_for_name.ensures in
    rw c.in-Ok.is (e.0, retires_for_named g.D.Disk c.args.archive.now c.retire_for_name.new.archive c.args.policy c.in-Some.policy (stream_begun c.in-Ok.stream) e.0 c.retire_for_name.result c.in-Some.is e.1, e.2)

pub returns-in-Err : goal.returns-in-Err
returns-in-Err g c =
    rw c.in-Err.is ([], retires_for_none g.D.Disk c.args.archive.now c.args.policy c.in-Some.policy _ c.in-Some.is, prints_nothing)

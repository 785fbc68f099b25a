use Rattle.std.proofs.Common.{w64, arith, sym}
use Rattle.std.proofs.lemmas.Int.{to_z_pos}
use Rattle.case_tables.proofs.zones.date_at.Goals as goal

pub returns : goal.returns
returns c =
    let time = to_z_pos w64 c.args.time (omega (arith, c.if-time-gt-LAST_TIME.false)) in
    let value = rw c.unwrap-moment.ensures at c.from_second.ensures.value in
    let moment = rw time at value in
    (c.to_datetime.result, sym c.date.ensures, rw moment at c.to_datetime.ensures)

use Rattle.std.proofs.Common.{◌++◌, Ok, Err}
use Rattle.std.proofs.lemmas.Result.{err_from_is_err_and}
use Rattle.intake.specs.Parts.{state_of}
use Rattle.script_streams.specs.Printing.{sink}
use Rattle.inspector_cli.proofs.FitLemmas.{room_none, room_then}
use Rattle.inspector_cli.proofs.SpentLemmas.{made_then, gone_then, stuck_then}
use Rattle.inspector_cli.proofs.fitting.make_room.Goals as goal

pub returns-in_err-is_gone-clause-room : goal.returns-in_err-is_gone-clause-room
returns-in_err-is_gone-clause-room g c = λ begun so_far gone takes.
    let p = err_from_is_err_and c.from_residual.result c.from_residual.ensures.1 in
    let w = c.loop-is_gone.invariant.went begun so_far gone takes in
    rw (p.1, p.2) (room_then g.D.Disk c.args.order begun so_far gone (sink g.O.Output c.args.reply.now) (sink g.O.Output c.loop-is_gone.reply) (sink g.O.Output c.drop_if_full.new.reply) c.drop_if_full.new.archive
    (Err c.in_err-is_gone.field-0.0) w.0 w.1 (c.in_err-is_gone.ensures.goes begun so_far (gone ++ w.0) w.2))

pub returns-in_err-is_gone-clause-served : goal.returns-in_err-is_gone-clause-served
returns-in_err-is_gone-clause-served g c =
    let p = err_from_is_err_and c.from_residual.result c.from_residual.ensures.1 in
    rw (p.1, p.2) (stuck_then c.args.order c.args.need (state_of c.args.archive.now) (state_of c.loop-is_gone.archive) (state_of c.drop_if_full.new.archive) c.in_err-is_gone.field-0.0 c.in_err-is_gone.ensures.served)

pub returns-then-not-is_gone-clause-room : goal.returns-then-not-is_gone-clause-room
returns-then-not-is_gone-clause-room g c = λ begun so_far gone takes.
    let w = c.loop-is_gone.invariant.went begun so_far gone takes in
    room_then g.D.Disk c.args.order begun so_far gone (sink g.O.Output c.args.reply.now) (sink g.O.Output c.loop-is_gone.reply) (sink g.O.Output c.drop_if_full.new.reply) c.drop_if_full.new.archive
    (Ok tt) w.0 w.1 (c.in_ok-is_gone.ensures.goes begun so_far (gone ++ w.0) w.2)

pub returns-then-not-is_gone-clause-served : goal.returns-then-not-is_gone-clause-served
returns-then-not-is_gone-clause-served g c = made_then c.args.order c.args.need (state_of c.args.archive.now) (state_of c.loop-is_gone.archive) (state_of c.drop_if_full.new.archive) c.in_ok-is_gone.is_gone c.if-not-is_gone.true c.loop-is_gone.invariant.served c.in_ok-is_gone.ensures.served

pub loop-is_gone-preserved : goal.loop-is_gone-preserved
loop-is_gone-preserved g c = record {
  went = λ begun so_far gone takes.
      (let w = c.loop-is_gone.invariant.went begun so_far gone takes in
      room_then g.D.Disk c.args.order begun so_far gone (sink g.O.Output c.args.reply.now) (sink g.O.Output c.loop-is_gone.reply) (sink g.O.Output c.drop_if_full.new.reply) c.drop_if_full.new.archive
      (Ok tt) w.0 w.1 (c.in_ok-is_gone.ensures.goes begun so_far (gone ++ w.0) w.2));
  served = λ was. (gone_then c.args.order c.args.need (state_of c.loop-is_gone.archive) (state_of c.drop_if_full.new.archive) c.in_ok-is_gone.is_gone c.if-not-is_gone.false c.in_ok-is_gone.ensures.served).0 (c.loop-is_gone.invariant.served was);
}

pub loop-is_gone-init : goal.loop-is_gone-init
loop-is_gone-init g c = record {
  went = λ begun so_far gone takes. room_none g.D.Disk c.args.order begun so_far gone (sink g.O.Output c.args.reply.now) c.args.archive.now takes;
  served = λ was. was;
}

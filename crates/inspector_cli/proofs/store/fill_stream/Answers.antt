use Rattle.std.proofs.Common.{Ok, Err}
use Rattle.std.proofs.lemmas.Result.{err_from_is_err_and}
use Rattle.script_streams.specs.Replies.{printing}
use Rattle.script_streams.specs.Printing.{sink}
use Rattle.inspector_cli.proofs.StoreLemmas.{filled_as, room_at_cut, room_at_end}
use Rattle.inspector_cli.proofs.store.fill_stream.Goals as goal

pub returns-then-not-fit-clause-all : goal.returns-then-not-fit-clause-all
returns-then-not-fit-clause-all g c =
    filled_as g.D.Disk c.args.order c.args.fit c.args.cut c.args.stated (g.I.Input.remaining c.args.file.now) (g.I.Input.remaining c.take_asked.new.file) (g.I.Input.failures c.args.file.now) (g.I.Input.failures c.take_asked.new.file)
    (printing g.O.Output c.args.reply.now c.take_asked.new.reply) c.args.archive.now c.take_asked.new.archive c.take_asked.result c.take_asked.ensures.all c.take_asked.ensures.well

pub returns-in-Ok-clause-all : goal.returns-in-Ok-clause-all
returns-in-Ok-clause-all g c =
    room_at_end g.D.Disk c.args.order c.args.fit c.args.cut c.args.stated (g.I.Input.remaining c.args.file.now) (g.I.Input.remaining c.take_asked-2.new.file) (g.I.Input.failures c.args.file.now) (g.I.Input.failures c.take_asked-2.new.file)
    (sink g.O.Output c.args.reply.now) (sink g.O.Output c.take_asked-2.new.reply) (sink g.O.Output c.make_room.new.reply)
    c.args.archive.now c.take_asked-2.new.archive c.make_room.new.archive c.if-not-fit.false c.in-Ok.ensures.all c.make_room.result c.make_room.ensures.room

pub returns-in_ok-make_room-in-Err-Cut-clause-all : goal.returns-in_ok-make_room-in-Err-Cut-clause-all
returns-in_ok-make_room-in-Err-Cut-clause-all g c =
    room_at_cut g.D.Disk c.args.order c.args.fit c.args.cut c.args.stated (g.I.Input.remaining c.args.file.now) (g.I.Input.remaining c.take_asked-2.new.file) (g.I.Input.failures c.args.file.now) (g.I.Input.failures c.take_asked-2.new.file)
    (sink g.O.Output c.args.reply.now) (sink g.O.Output c.take_asked-2.new.reply) (sink g.O.Output c.make_room-in-Err-Cut.new.reply)
    c.args.archive.now c.take_asked-2.new.archive c.make_room-in-Err-Cut.new.archive c.in-Err-Cut.kept c.if-not-fit.false
    (rw c.in-Err-Cut.field-0-is at c.in-Err-Cut.ensures.all) (rw c.in-Err-Cut.field-0-is at c.in-Err-Cut.ensures.well)
    (Ok c.in_ok-make_room-in-Err-Cut.field-0) c.in_ok-make_room-in-Err-Cut.ensures.room

pub returns-in_err-make_room-in-Err-Cut-clause-all : goal.returns-in_err-make_room-in-Err-Cut-clause-all
returns-in_err-make_room-in-Err-Cut-clause-all g c =
    let p = err_from_is_err_and c.from_residual.result c.from_residual.ensures.1 in
    rw (p.1, p.2) (room_at_cut g.D.Disk c.args.order c.args.fit c.args.cut c.args.stated (g.I.Input.remaining c.args.file.now) (g.I.Input.remaining c.take_asked-2.new.file) (g.I.Input.failures c.args.file.now) (g.I.Input.failures c.take_asked-2.new.file)
    (sink g.O.Output c.args.reply.now) (sink g.O.Output c.take_asked-2.new.reply) (sink g.O.Output c.make_room-in-Err-Cut.new.reply)
    c.args.archive.now c.take_asked-2.new.archive c.make_room-in-Err-Cut.new.archive c.in-Err-Cut.kept c.if-not-fit.false
    (rw c.in-Err-Cut.field-0-is at c.in-Err-Cut.ensures.all) (rw c.in-Err-Cut.field-0-is at c.in-Err-Cut.ensures.well)
    (Err c.in_err-make_room-in-Err-Cut.field-0.0) c.in_err-make_room-in-Err-Cut.ensures.room)

use Rattle.std.proofs.Common.{ℕ, true, Ok, Err}
use Rattle.std.proofs.lemmas.Result.{err_from_is_err_and}
use Rattle.intake.specs.Parts.{state_of}
use Rattle.script_streams.specs.Printing.{sink}
use Rattle.inspector_cli.specs.Stated.{HashesOn}
use Rattle.inspector_cli.proofs.FitLemmas.{next_alone, next_then}
use Rattle.inspector_cli.proofs.SpentLemmas.{one_serves, stop_serves, end_serves, room_serves, stop_as}
use Rattle.inspector_cli.proofs.store.take_one.Goals as goal

pub returns-in_err-count-clause-next : goal.returns-in_err-count-clause-next
returns-in_err-count-clause-next g c = λ begun so_far gone takes.
    let p = err_from_is_err_and c.from_residual.result c.from_residual.ensures.1 in
    rw (p.1, p.2) (next_alone g.D.Disk c.args.order (g.I.Input.remaining c.args.file.now) (g.I.Input.remaining c.take_more.new.file) (g.I.Input.failures c.args.file.now) (g.I.Input.failures c.take_more.new.file)
    begun c.args.archive.now c.args.archive.now c.take_more.new.archive so_far gone true (HashesOn c.args.hasher.now c.take_more.new.hasher) (sink g.O.Output c.args.reply.now) (Err c.in_err-count.field-0.0) takes c.in_err-count.ensures.more)

pub returns-then-count-eq0-clause-next : goal.returns-then-count-eq0-clause-next
returns-then-count-eq0-clause-next g c = λ begun so_far gone takes.
    next_alone g.D.Disk c.args.order (g.I.Input.remaining c.args.file.now) (g.I.Input.remaining c.take_more.new.file) (g.I.Input.failures c.args.file.now) (g.I.Input.failures c.take_more.new.file)
    begun c.args.archive.now c.args.archive.now c.take_more.new.archive so_far gone true (HashesOn c.args.hasher.now c.take_more.new.hasher) (sink g.O.Output c.args.reply.now) (Ok 0) takes (rw c.if-count-eq0.true at c.in_ok-count.ensures.more)

pub returns-in_err-make_room-clause-next : goal.returns-in_err-make_room-clause-next
returns-in_err-make_room-clause-next g c = λ begun so_far gone takes.
    let p = err_from_is_err_and c.from_residual-in_err-make_room.result c.from_residual-in_err-make_room.ensures.1 in
    rw (p.1, p.2) (next_then g.D.Disk c.args.order (g.I.Input.remaining c.args.file.now) (g.I.Input.remaining c.take_more.new.file) (g.I.Input.failures c.args.file.now) (g.I.Input.failures c.take_more.new.file)
    begun c.args.archive.now c.take_more.new.archive c.make_room.new.archive so_far gone true (HashesOn c.args.hasher.now c.take_more.new.hasher) c.in_ok-count.count c.if-count-eq0.false (sink g.O.Output c.args.reply.now) (sink g.O.Output c.make_room.new.reply) (Err c.in_err-make_room.field-0.0) takes
    c.in_ok-count.ensures.more c.in_err-make_room.ensures.room)

pub returns-clause-next : goal.returns-clause-next
returns-clause-next g c = λ begun so_far gone takes.
    next_then g.D.Disk c.args.order (g.I.Input.remaining c.args.file.now) (g.I.Input.remaining c.take_more.new.file) (g.I.Input.failures c.args.file.now) (g.I.Input.failures c.take_more.new.file)
    begun c.args.archive.now c.take_more.new.archive c.make_room.new.archive so_far gone true (HashesOn c.args.hasher.now c.take_more.new.hasher) c.in_ok-count.count c.if-count-eq0.false (sink g.O.Output c.args.reply.now) (sink g.O.Output c.make_room.new.reply) (Ok c.in_ok-make_room.field-0) takes
    c.in_ok-count.ensures.more c.in_ok-make_room.ensures.room

pub returns-in_err-count-clause-served : goal.returns-in_err-count-clause-served
returns-in_err-count-clause-served g c = λ served.
    let p = err_from_is_err_and c.from_residual.result c.from_residual.ensures.1 in
    rw (p.1, p.2) (stop_serves c.args.order (state_of c.take_more.new.archive) c.in_err-count.field-0.0
    (one_serves c.args.order (state_of c.args.archive.now) (state_of c.take_more.new.archive) (Err c.in_err-count.field-0.0) served c.in_err-count.ensures.advances))

pub returns-then-count-eq0-clause-served : goal.returns-then-count-eq0-clause-served
returns-then-count-eq0-clause-served g c = λ served.
    end_serves c.args.order (state_of c.take_more.new.archive) c.in_ok-count.count c.if-count-eq0.true
    (one_serves c.args.order (state_of c.args.archive.now) (state_of c.take_more.new.archive) (Ok c.in_ok-count.count) served c.in_ok-count.ensures.advances)

pub returns-in_err-make_room-clause-served : goal.returns-in_err-make_room-clause-served
returns-in_err-make_room-clause-served g c = λ served.
    let p = err_from_is_err_and c.from_residual-in_err-make_room.result c.from_residual-in_err-make_room.ensures.1 in
    rw (p.1, p.2) (stop_as c.args.order (Unit {0}) ℕ (state_of c.make_room.new.archive) c.in_err-make_room.field-0.0
    (room_serves c.args.order (state_of c.take_more.new.archive) (state_of c.make_room.new.archive) (Err c.in_err-make_room.field-0.0) c.in_err-make_room.ensures.served))

pub returns-clause-served : goal.returns-clause-served
returns-clause-served g c = λ served.
    room_serves c.args.order (state_of c.take_more.new.archive) (state_of c.make_room.new.archive) (Ok c.in_ok-make_room.field-0) c.in_ok-make_room.ensures.served

use Rattle.std.proofs.Common.{inl, inr, refl}
use Rattle.intake.specs.Parts.{state_of}
use Rattle.script_streams.specs.Printing.{sink}
use Rattle.inspector_cli.proofs.FitLemmas.{room_none, one_gone, one_stuck}
use Rattle.inspector_cli.proofs.SpentLemmas.{delete_serves, delete_refused}
use Rattle.inspector_cli.proofs.fitting.drop_if_full.Goals as goal

pub returns-then-not-lacks_room-clause-goes : goal.returns-then-not-lacks_room-clause-goes
returns-then-not-lacks_room-clause-goes g c = λ begun so_far gone takes. room_none g.D.Disk c.args.order begun so_far gone (sink g.O.Output c.args.reply.now) c.args.archive.now takes

pub returns-then-not-lacks_room-clause-served : goal.returns-then-not-lacks_room-clause-served
returns-then-not-lacks_room-clause-served g c = (refl, inr (c.lacks_room.ensures.finds c.if-not-lacks_room.true))

pub returns-in_default-clause-goes : goal.returns-in_default-clause-goes
returns-in_default-clause-goes g c = λ begun so_far gone takes. room_none g.D.Disk c.args.order begun so_far gone (sink g.O.Output c.args.reply.now) c.args.archive.now takes

pub returns-in_default-clause-served : goal.returns-in_default-clause-served
returns-in_default-clause-served g c = (refl, inl (c.next_number.ensures.none c.in_default.is))

pub returns-in-Ok-clause-goes : goal.returns-in-Ok-clause-goes
returns-in-Ok-clause-goes g c = λ begun so_far gone takes.
    one_gone g.D.Disk c.args.order begun so_far gone (sink g.O.Output c.args.reply.now) (sink g.O.Output c.print_gone.new.reply) c.args.archive.now c.delete.new.self c.in-Some.seq takes c.in-Ok.field-0
    (record { next = c.in-Some.ensures.next; needed = c.lacks_room.ensures.lacks c.if-not-lacks_room.false; deletes = c.in-Ok.ensures }) c.print_gone.ensures

pub returns-in-Ok-clause-served : goal.returns-in-Ok-clause-served
returns-in-Ok-clause-served g c = delete_serves c.args.order (state_of c.args.archive.now) (state_of c.delete.new.self) c.in-Some.seq c.in-Ok.field-0 c.in-Some.ensures.next c.in-Ok.ensures.step

pub returns-in-Err-clause-goes : goal.returns-in-Err-clause-goes
returns-in-Err-clause-goes g c = λ begun so_far gone takes.
    one_stuck g.D.Disk c.args.order begun so_far gone (sink g.O.Output c.args.reply.now) (sink g.O.Output c.args.reply.now) c.args.archive.now c.delete.new.self c.in-Some.seq takes c.in-Err.fault
    (record { next = c.in-Some.ensures.next; needed = c.lacks_room.ensures.lacks c.if-not-lacks_room.false; deletes = c.in-Err.ensures })

pub returns-in-Err-clause-served : goal.returns-in-Err-clause-served
returns-in-Err-clause-served g c = delete_refused c.args.order (state_of c.args.archive.now) (state_of c.delete.new.self) c.in-Some.seq c.in-Err.fault c.in-Some.ensures.next c.in-Err.ensures.step

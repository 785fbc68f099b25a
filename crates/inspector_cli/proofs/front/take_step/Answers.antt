use Rattle.script_streams.specs.Printing.{sink}
use Rattle.inspector_cli.specs.declared.store.TakeStop.TheVariants.{Cut, Differs}
use Rattle.inspector_cli.specs.declared.stated.Difference.TheVariants.{Long}
use Rattle.inspector_cli.specs.Stated.{HashesOn}
use Rattle.inspector_cli.proofs.FitLemmas.{look_next}
use Rattle.inspector_cli.proofs.StatedLemmas.{hashes_none}
use Rattle.inspector_cli.proofs.front.take_step.Goals as goal

pub returns-then-is_reached-clause-next : goal.returns-then-is_reached-clause-next
returns-then-is_reached-clause-next g c = λ begun so_far gone takes.
    look_next g.D.Disk c.args.order (g.I.Input.remaining c.args.file.now) (g.I.Input.remaining c.look_past.new.file) (g.I.Input.failures c.args.file.now) (g.I.Input.failures c.look_past.new.file)
    begun c.args.archive.now c.args.archive.now c.args.archive.now so_far gone c.args.fit (HashesOn c.args.hasher.now c.args.hasher.now) (Differs Long) tt (hashes_none c.args.hasher.now) (sink g.O.Output c.args.reply.now) c.look_past.result takes c.look_past.ensures

pub returns-then-is_reached-2-clause-next : goal.returns-then-is_reached-2-clause-next
returns-then-is_reached-2-clause-next g c = λ begun so_far gone takes.
    look_next g.D.Disk c.args.order (g.I.Input.remaining c.args.file.now) (g.I.Input.remaining c.look_past-then-is_reached-2.new.file) (g.I.Input.failures c.args.file.now) (g.I.Input.failures c.look_past-then-is_reached-2.new.file)
    begun c.args.archive.now c.args.archive.now c.args.archive.now so_far gone c.args.fit (HashesOn c.args.hasher.now c.args.hasher.now) (Cut c.args.taken) tt (hashes_none c.args.hasher.now) (sink g.O.Output c.args.reply.now) c.look_past-then-is_reached-2.result takes c.look_past-then-is_reached-2.ensures

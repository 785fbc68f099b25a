use Rattle.std.proofs.Common.{true}
use Rattle.intake.specs.Parts.{state_of}
use Rattle.script_streams.specs.Printing.{sink}
use Rattle.inspector_cli.specs.Stated.{HashesOn}
use Rattle.inspector_cli.proofs.FitLemmas.{next_alone}
use Rattle.inspector_cli.proofs.SpentLemmas.{free_serves}
use Rattle.inspector_cli.proofs.store.take_fitting.Goals as goal

pub returns-then-not-lacks_block-clause-next : goal.returns-then-not-lacks_block-clause-next
returns-then-not-lacks_block-clause-next g c = λ begun so_far gone takes.
    next_alone g.D.Disk c.args.order (g.I.Input.remaining c.args.file.now) (g.I.Input.remaining c.take_more.new.file) (g.I.Input.failures c.args.file.now) (g.I.Input.failures c.take_more.new.file)
    begun c.args.archive.now c.args.archive.now c.take_more.new.archive so_far gone true (HashesOn c.args.hasher.now c.take_more.new.hasher) (sink g.O.Output c.args.reply.now) c.take_more.result takes c.take_more.ensures.more

pub returns-then-not-lacks_block-clause-served : goal.returns-then-not-lacks_block-clause-served
returns-then-not-lacks_block-clause-served g c = λ served.
    free_serves c.args.order c.args.most (state_of c.args.archive.now) (state_of c.take_more.new.archive) c.take_more.result (c.lacks_block.ensures.finds c.if-not-lacks_block.true) c.take_more.ensures.advances

use Rattle.std.proofs.Common.{sym, ◌∙◌}
use Rattle.std.proofs.lemmas.Bool.{false≢true}
use Rattle.script_streams.specs.Printing.{sink}
use Rattle.inspector_cli.specs.Stated.{HashesOn}
use Rattle.inspector_cli.proofs.FitLemmas.{next_alone, next_as}
use Rattle.inspector_cli.proofs.store.take_next.Goals as goal

pub returns-then-not-fit-clause-next : goal.returns-then-not-fit-clause-next
returns-then-not-fit-clause-next g c = λ begun so_far gone takes.
    next_alone g.D.Disk c.args.order (g.I.Input.remaining c.args.file.now) (g.I.Input.remaining c.take_more.new.file) (g.I.Input.failures c.args.file.now) (g.I.Input.failures c.take_more.new.file)
    begun c.args.archive.now c.args.archive.now c.take_more.new.archive so_far gone c.args.fit (HashesOn c.args.hasher.now c.take_more.new.hasher) (sink g.O.Output c.args.reply.now) c.take_more.result takes c.take_more.ensures.more

pub returns-clause-next : goal.returns-clause-next
returns-clause-next g c = λ begun so_far gone takes.
    next_as g.D.Disk c.args.order (g.I.Input.remaining c.args.file.now) (g.I.Input.remaining c.take_fitting.new.file) (g.I.Input.failures c.args.file.now) (g.I.Input.failures c.take_fitting.new.file)
    begun c.args.archive.now c.args.archive.now c.take_fitting.new.archive so_far gone c.args.fit (HashesOn c.args.hasher.now c.take_fitting.new.hasher) (sink g.O.Output c.args.reply.now) (sink g.O.Output c.take_fitting.new.reply) c.take_fitting.result
    c.if-not-fit.false (c.take_fitting.ensures.next begun so_far gone takes)

pub returns-then-not-fit-clause-served : goal.returns-then-not-fit-clause-served
returns-then-not-fit-clause-served g c = λ fits. absurd (false≢true (sym c.if-not-fit.true ∙ fits))

pub returns-clause-served : goal.returns-clause-served
returns-clause-served g c = λ fits served. c.take_fitting.ensures.served served

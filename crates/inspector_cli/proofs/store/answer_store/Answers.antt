use Rattle.script_streams.specs.Replies.{printing}
use Rattle.script_streams.specs.Printing.{sink}
use Rattle.std.proofs.Common.{Bool, subst}
use Rattle.stream_names.specs.Commands.{stream_found}
use Rattle.inspector_cli.specs.Reply.{Begins}
use Rattle.inspector_cli.proofs.StoreLemmas.{stores, stores_none}
use Rattle.inspector_cli.proofs.store.answer_store.Goals as goal

pub returns-then-not-is_begun : goal.returns-then-not-is_begun
returns-then-not-is_begun g c =
    stores_none g.D.Disk c.args.order c.args.fit c.args.cut c.args.stated (stream_found c.args.found) (g.I.Input.remaining c.args.file.now) (g.I.Input.failures c.args.file.now)
    (printing g.O.Output c.args.reply.now c.answer_first-is_begun.new.reply)
    c.args.archive.now c.answer_first-is_begun.new.archive
    (let first = c.answer_first-is_begun.ensures.first in (
      first.0,
      subst (λ (b : Bool). Begins g.D.Disk c.args.archive.now 0 (stream_found c.args.found) first.0 c.answer_first-is_begun.new.archive b)
          c.if-not-is_begun.true first.1,
      first.2,
    ))

pub returns : goal.returns
returns g c =
    stores g.D.Disk c.args.order c.args.fit c.args.cut c.args.stated (stream_found c.args.found) (g.I.Input.remaining c.args.file.now) (g.I.Input.remaining c.answer_file.new.file)
    (g.I.Input.failures c.args.file.now) (g.I.Input.failures c.answer_file.new.file)
    (sink g.O.Output c.args.reply.now) (sink g.O.Output c.answer_first-is_begun.new.reply) (sink g.O.Output c.answer_file.new.reply)
    c.args.archive.now c.answer_first-is_begun.new.archive c.answer_file.new.archive c.answer_file.result
    (let first = c.answer_first-is_begun.ensures.first in (
      first.0,
      subst (λ (b : Bool). Begins g.D.Disk c.args.archive.now 0 (stream_found c.args.found) first.0 c.answer_first-is_begun.new.archive b)
          c.if-not-is_begun.false first.1,
      first.2,
    ))
    (c.answer_first-is_begun.ensures.served c.if-not-is_begun.false) c.answer_file.ensures

use Rattle.script_streams.specs.Printing.{sink}
use Rattle.stream_names.specs.Commands.{stream_found}
use Rattle.inspector_cli.specs.Storing.{options_asked}
use Rattle.inspector_cli.proofs.StoreLemmas.{stores_all}
use Rattle.inspector_cli.proofs.store.answer_all.Goals as goal

pub returns : goal.returns
returns g c =
    stores_all g.D.Disk (g.I.Input.remaining c.args.file.now) (g.I.Input.remaining c.answer_store-stored.new.file)
    (g.I.Input.failures c.args.file.now) (g.I.Input.failures c.answer_store-stored.new.file)
    (sink g.O.Output c.args.reply.now) (sink g.O.Output c.retire_first-retired_first.new.reply) (sink g.O.Output c.answer_store-stored.new.reply) (sink g.O.Output c.label_case-labelled.new.reply) (sink g.O.Output c.pin_case-pinned.new.reply)
    c.args.archive.now c.retire_first-retired_first.new.archive c.answer_store-stored.new.archive c.label_case-labelled.new.archive c.pin_case-pinned.new.archive
    c.args.policy (stream_found c.args.found) (options_asked c.args.options.now)
    c.retire_first-retired_first.result c.answer_store-stored.result c.label_case-labelled.result c.pin_case-pinned.result
    c.retire_first-retired_first.ensures c.answer_store-stored.ensures c.label_case-labelled.ensures c.pin_case-pinned.ensures

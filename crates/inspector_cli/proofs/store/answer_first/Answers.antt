use Rattle.stream_names.specs.Commands.{stream_found}
use Rattle.inspector_cli.proofs.StoreLemmas.{begun_serves, begun_takes, found_fresh}
use Rattle.inspector_cli.proofs.store.answer_first.Goals as goal

pub returns-clause-begun : goal.returns-clause-begun
returns-clause-begun g c = λ begun.
    begun_takes g.D.Disk c.args.archive.now c.answer_begin.new.archive 0 (stream_found c.args.found) c.answer_begin.ensures.0 c.answer_begin.result
    (found_fresh c.args.found) c.answer_begin.ensures.1 begun

pub returns-clause-served : goal.returns-clause-served
returns-clause-served g c = λ begun.
    begun_serves g.D.Disk c.args.archive.now c.answer_begin.new.archive 0 (stream_found c.args.found) c.answer_begin.ensures.0 c.answer_begin.result
    (found_fresh c.args.found) c.answer_begin.ensures.1 begun

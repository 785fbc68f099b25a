use Rattle.std.proofs.Common.{drop}
use Rattle.std.proofs.lemmas.List.{drop_all}
use Rattle.pruning.specs.KeptWords.{has_id, has_name}
use Rattle.pruning.specs.Pruning.{Goes}
use Rattle.pruning.proofs.BuildLemmas.{all_picked, follows_at}
use Rattle.pruning.proofs.dropping.builds_that_go.Goals as goal

pub loop-case-preserved : goal.loop-case-preserved
loop-case-preserved c =
    follows_at (Goes (has_id c.args.kept.now) (has_name c.args.kept.now)) c.args.cases.now c.loop-case.numbers.items _ c.goes.result c.loop-case.case-index _ c.loop-case-test.true c.goes.ensures
    c.in_ok-push_if.ensures c.loop-case.invariant

pub returns : goal.returns
returns c =
    all_picked (Goes (has_id c.args.kept.now) (has_name c.args.kept.now)) c.args.cases.now c.loop-case.numbers.items (drop c.loop-case.case-index c.args.cases.now)
    (drop_all c.loop-case.case-index c.args.cases.now c.loop-case-test.false) c.loop-case.invariant

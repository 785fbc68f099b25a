use Rattle.retention.proofs.RisingLemmas.{dropped_rise}
use Rattle.retention.proofs.rule.decide.Goals as goal

pub returns-clause-rising : goal.returns-clause-rising
returns-clause-rising c = dropped_rise c.args.policy.now _ c.args.cases.now _ c.in_ok-dropped.ensures c.requires

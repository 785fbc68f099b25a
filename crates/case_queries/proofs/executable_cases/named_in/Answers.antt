use Rattle.build_replies.specs.NameWords.{names_in}
use Rattle.case_queries.proofs.ExecutableLemmas.{named_more}
use Rattle.case_queries.proofs.executable_cases.named_in.Goals as goal

pub loop-case-preserved : goal.loop-case-preserved
loop-case-preserved c =
    named_more (names_in c.args.names.now) c.args.cases.now c.loop-case.case-index c.case-item.result _ _ c.loop-case-test.true c.case-item.is c.loop-case.invariant c.in_ok-add_named.ensures

use Rattle.std.proofs.Common.{◌+◌, drop, map, arith, sym, ap, ◌∙◌}
use Rattle.journal_layout.specs.Case.{case_of}
use Rattle.fair_share.specs.Fairness.{blocks_of}
use Rattle.fair_share.specs.Totals.{total_in}
use Rattle.fair_share.specs.Weighing.{counted}
use Rattle.fair_share.proofs.WeighLemmas.{blocks_at, grown}
use Rattle.fair_share.proofs.totals.totals_of.Goals as goal

pub loop-core-preserved : goal.loop-core-preserved
loop-core-preserved c =
    let i = c.loop-core.invariant in
    record {
      all = λ owner.
          ap (λ n. n + blocks_of c.args.scope owner (map case_of (drop (c.loop-core.core-index + 1) c.args.cases.now))) (c.in-Ok.ensures.grows owner)
          ∙ grown (total_in c.loop-core.totals owner) (counted c.args.scope owner (case_of c.core-item.result)) (blocks_of c.args.scope owner (map case_of (drop c.loop-core.core-index c.args.cases.now)))
          (blocks_of c.args.scope owner (map case_of (drop (c.loop-core.core-index + 1) c.args.cases.now))) (blocks_of c.args.scope owner (map case_of c.args.cases.now)) (i.all owner)
          (blocks_at c.args.scope owner c.args.cases.now c.loop-core.core-index c.core-item.result c.loop-core-test.true c.core-item.is);
      small = λ owner.
          let so_far = i.small owner in
          let more = c.in-Ok.ensures.slowly owner in
          omega (arith, so_far, more);
    }

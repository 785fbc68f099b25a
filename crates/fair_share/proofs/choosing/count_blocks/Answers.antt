use Rattle.std.proofs.Common.{◌+◌, drop, map, arith, sym, ap, ◌∙◌}
use Rattle.journal_layout.specs.Case.{case_of}
use Rattle.fair_share.specs.Fairness.{blocks_of}
use Rattle.fair_share.proofs.WeighLemmas.{blocks_at, grown}
use Rattle.fair_share.proofs.choosing.count_blocks.Goals as goal

pub loop-core-preserved : goal.loop-core-preserved
loop-core-preserved c =
    let i = c.loop-core.invariant in
    let few = c.counted-blocks.ensures.small in
    let small = i.small in
    record {
      all = grown c.loop-core.blocks c.counted-blocks.result (blocks_of c.args.scope c.args.owner.now (map case_of (drop c.loop-core.core-index c.args.cases.now)))
          (blocks_of c.args.scope c.args.owner.now (map case_of (drop (c.loop-core.core-index + 1) c.args.cases.now))) (blocks_of c.args.scope c.args.owner.now (map case_of c.args.cases.now)) i.all
          (blocks_at c.args.scope c.args.owner.now c.args.cases.now c.loop-core.core-index c.core-item.result c.loop-core-test.true c.core-item.is
          ∙ ap (λ n. n + blocks_of c.args.scope c.args.owner.now (map case_of (drop (c.loop-core.core-index + 1) c.args.cases.now))) (sym c.counted-blocks.ensures.value));
      small = omega (arith, few, small);
    }

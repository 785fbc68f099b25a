use Rattle.std.proofs.Common.{drop, arith, sym, ◌∙◌}
use Rattle.retention.proofs.StayLemmas.{Along, stepped_at, holds_after-is, fewer_fail_more}
use Rattle.retention.proofs.rule.spare_to_go.Goals as goal

pub overflow_sub-left-in-loop-case : goal.overflow_sub-left-in-loop-case
overflow_sub-left-in-loop-case c =
    let so_far = c.loop-case.invariant in
    let along : Along c.args.policy.now c.args.cases.now c.loop-case.left c.loop-case.count (drop c.loop-case.case-index c.args.cases.now) =
    record { front = so_far.front; link = so_far.link; totals_are = so_far.totals; spare = so_far.spare } in
    (stepped_at _ _ c.loop-case.left c.loop-case.count c.loop-case.case-index _ c.spare_weight-weight.result (omega arith) c.spare_weight-weight.ensures.weight along).bytes_fit

pub loop-case-preserved : goal.loop-case-preserved
loop-case-preserved c =
    let so_far = c.loop-case.invariant in
    let along : Along c.args.policy.now c.args.cases.now c.loop-case.left c.loop-case.count (drop c.loop-case.case-index c.args.cases.now) =
    record { front = so_far.front; link = so_far.link; totals_are = so_far.totals; spare = so_far.spare } in
    let step = stepped_at _ _ c.loop-case.left c.loop-case.count c.loop-case.case-index _ c.spare_weight-weight.result (omega arith) c.spare_weight-weight.ensures.weight along in
    record {
      front = step.along.front;
      link = step.along.link;
      totals = step.along.totals_are;
      spare = step.along.spare;
      fewer_fail = fewer_fail_more c.args.policy.now c.args.cases.now c.loop-case.count c.spare_weight-weight.result.count c.spare_weight-weight.ensures.few so_far.fewer_fail
          (sym (holds_after-is c.args.policy.now c.args.cases.now c.loop-case.left c.loop-case.count so_far.totals) ∙ sym c.if-is_met.ensures);
      few = omega (arith, so_far.few, c.spare_weight-weight.ensures.few);
    }

use Rattle.std.proofs.Common.{◌-◌, arith}
use Rattle.salvage.proofs.FindLemmas.{found_here, none_left, not_here}
use Rattle.salvage.proofs.finding.find_gate.Goals as goal

pub returns-then-branch-clause-last : goal.returns-then-branch-clause-last
returns-then-branch-clause-last g c = λ honest.
    let left = c.loop-left.left in
    let some = c.loop-left-test.true in
    found_here (g.S.Source.seen c.args.source.now) c.args.at left (left - 1) c.in_ok-is_gate.field-0 c.if-branch.true (omega arith)
    (c.in_ok-is_gate.ensures honest) (c.loop-left.invariant.tried honest)

pub loop-left-preserved : goal.loop-left-preserved
loop-left-preserved g c =
    let left = c.loop-left.left in
    let some = c.loop-left-test.true in
    record {
      bound = (let low = c.loop-left.invariant.bound in omega arith);
      tried = λ honest.
          not_here (g.S.Source.seen c.args.source.now) c.args.at left (left - 1) c.in_ok-is_gate.field-0 c.if-branch.false (omega arith)
          (c.in_ok-is_gate.ensures honest) (c.loop-left.invariant.tried honest);
    }

pub returns-clause-last : goal.returns-clause-last
returns-clause-last g c = λ honest s fault until.
    let none = c.loop-left-test.false in
    let low = c.loop-left.invariant.tried honest s fault until in
    none_left c.loop-left.left (omega arith) low

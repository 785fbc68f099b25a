use Rattle.std.proofs.Common.{rules, IsTrue, sym, subst, arith}
use Rattle.shared_disk.specs.JournalLooks.{OpensInTurn}
use Rattle.shared_disk.proofs.ReadLemmas.{turn_later, turn_push, opened_then}
use Rattle.shared_disk.proofs.chain.read_chain.Goals as goal

pub returns-then-not-is_open-clause-opened : goal.returns-then-not-is_open-clause-opened
returns-then-not-is_open-clause-opened g c honest =
    let runs = c.loop-at.invariant.runs in
    turn_later _ _ _ _ _ (c.read_head.ensures.runs.later (subst IsTrue (sym runs.honesty) honest)) (c.loop-at.invariant.opened honest)

pub loop-at-preserved : goal.loop-at-preserved
loop-at-preserved g c =
    let runs = c.loop-at.invariant.runs in
    record {
      opened = λ honest.
          let real = subst IsTrue (sym runs.honesty) honest in
          let read = c.in-Ok.ensures.opened real c.if-not-is_open.false in
          subst (OpensInTurn (g.D.WatchedDisk.moments c.args.disk.now) (g.D.WatchedDisk.reached c.args.disk.now) (g.D.WatchedDisk.reached c.read_head.new.disk)) (sym c.in-Ok-push.ensures.items)
          (turn_push _ _ _ _ read.0 _ _ read.1 read.2 (opened_then _ _ read.0 c.loop-at.at runs.moments read.3) (c.loop-at.invariant.opened honest));
      runs = search rules;
      from = (let from = c.loop-at.invariant.from in omega (arith, from));
    }

use Rattle.std.proofs.Common.{arith}
use Rattle.journal_snapshot.proofs.MeasureLemmas.{overflows, used_more, most_more, least_more}
use Rattle.journal_snapshot.proofs.measure.measured.Goals as goal

pub returns-in_err-sum : goal.returns-in_err-sum
returns-in_err-sum c =
    let l = c.loop-entry.invariant in
    rw c.from_residual.ensures
    (overflows c.args.change.now c.args.entries.now c.loop-entry.entry-index c.args.half c.entry-item.result c.loop-entry-test.true c.entry-item.is c.loop-entry.sum l.used
    (rw c.in_err-sum.was at c.with_entry.ensures))

pub loop-entry-preserved : goal.loop-entry-preserved
loop-entry-preserved c =
    let l = c.loop-entry.invariant in
    let ch = c.args.change.now in
    let es = c.args.entries.now in
    let i = c.loop-entry.entry-index in
    let grows = rw c.in_ok-sum.was at c.with_entry.ensures in
    record {
      used = used_more ch es i c.args.half c.entry-item.result c.loop-entry-test.true c.entry-item.is c.loop-entry.sum l.used c.in_ok-sum.sum grows;
      in_half = grows.1;
      most = most_more ch es i c.args.half c.entry-item.result c.loop-entry-test.true c.entry-item.is c.loop-entry.sum l.used c.in_ok-sum.sum grows l.most;
      least = least_more ch es i c.args.half c.entry-item.result c.loop-entry-test.true c.entry-item.is c.loop-entry.sum l.used c.in_ok-sum.sum grows l.least;
      within = omega (arith, grows.0, grows.4, l.within);
    }

use Rattle.std.proofs.Common.{IsTrue, sym, subst, arith}
use Rattle.shared_disk.proofs.ReadLemmas.{wider}
use Rattle.shared_disk.proofs.heads.read_heads.Goals as goal

pub returns-clause-read : goal.returns-clause-read
returns-clause-read g c honest =
    let r1 = c.read_both.ensures.runs in
    let real = subst IsTrue (sym r1.honesty) honest in (
      g.D.WatchedDisk.reached c.read_both.new.disk,
      r1.later honest,
      c.read_both-2.ensures.runs.later real,
      (c.in_ok-read_both.ensures.first honest, c.in_ok-read_both.ensures.second honest),
      (
        wider _ _ _ _ _ _ _ _ _ r1.moments (omega arith) (omega arith) (omega arith) (c.in_ok-read_both-2.ensures.first real),
        wider _ _ _ _ _ _ _ _ _ r1.moments (omega arith) (omega arith) (omega arith) (c.in_ok-read_both-2.ensures.second real),
      ),
    )

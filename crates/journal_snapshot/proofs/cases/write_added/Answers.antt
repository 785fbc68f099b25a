use Rattle.journal_snapshot.specs.WriteLaws.{writes_nothing}
use Rattle.journal_snapshot.proofs.cases.write_added.Goals as goal

pub returns-in-Nothing-clause-writes : goal.returns-in-Nothing-clause-writes
returns-in-Nothing-clause-writes g c = rw c.in-Nothing.is (writes_nothing g.D.Disk c.args.disk.now c.args.at (g.met.D.Disk.only_now c.args.disk.now))

pub returns-in-Drop-clause-writes : goal.returns-in-Drop-clause-writes
returns-in-Drop-clause-writes g c = rw c.in-Drop.is (writes_nothing g.D.Disk c.args.disk.now c.args.at (g.met.D.Disk.only_now c.args.disk.now))

pub returns-in-Pin-clause-writes : goal.returns-in-Pin-clause-writes
returns-in-Pin-clause-writes g c = rw c.in-Pin.is (writes_nothing g.D.Disk c.args.disk.now c.args.at (g.met.D.Disk.only_now c.args.disk.now))

pub returns-in-Label-clause-writes : goal.returns-in-Label-clause-writes
returns-in-Label-clause-writes g c = rw c.in-Label.is (writes_nothing g.D.Disk c.args.disk.now c.args.at (g.met.D.Disk.only_now c.args.disk.now))

pub returns-in-Upgrade-clause-writes : goal.returns-in-Upgrade-clause-writes
returns-in-Upgrade-clause-writes g c = rw c.in-Upgrade.is (writes_nothing g.D.Disk c.args.disk.now c.args.at (g.met.D.Disk.only_now c.args.disk.now))

use Rattle.intake.proofs.LifeLemmas.{kept, kept_once}
use Rattle.intake.proofs.laws.kept_over_many_stops.Goals as goal

pub returns-clause-one : goal.returns-clause-one
returns-clause-one g c = kept_once g.D.Disk g.met.D.Disk.counts_now g.met.D.Disk.only_now

pub returns-clause-many : goal.returns-clause-many
returns-clause-many g c = kept g.D.Disk g.met.D.Disk.counts_now g.met.D.Disk.only_now

use Rattle.std.proofs.Common.{◌↔◌, IsTrue, subst, sym}
use Rattle.disk_model.specs.Gathering.{MayStay}
use Rattle.disk_model.specs.GatheringLaws.{Laws, bare_stays}
use Rattle.disk_model.specs.Gathers.{with_gathered}
use Rattle.disk_model.proofs.gathering.Gathering.new.Goals as goal

pub returns-clause-crash : goal.returns-clause-crash
returns-clause-crash g c honest b =
    let m = g.met.D.Disk in
    let laws : Laws g.D.Disk = record { whole = m.whole; sized = m.sized; seen_bytes = m.seen_bytes; left_bytes = m.left_bytes; seen_may_stay = m.seen_may_stay; counts_now = m.counts_now; only_now = m.only_now } in
    let made = c.written.result in
    let same = c.written.ensures.below in
    subst (λ d. MayStay g.D.Disk (with_gathered made.disk made.gathered) b ↔ g.D.Disk.may_leave d b) same
    (bare_stays g.D.Disk laws (with_gathered made.disk made.gathered) c.written.ensures.bare.0 (subst (λ d. IsTrue (g.D.Disk.is_honest d)) (sym same) honest) b)

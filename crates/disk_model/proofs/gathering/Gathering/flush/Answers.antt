use Rattle.disk_model.specs.GatheringLaws.{Laws, settled_on}
use Rattle.disk_model.specs.Gathers.{with_gathered}
use Rattle.disk_model.proofs.gathering.Gathering.flush.Goals as goal

-- what was gathered was written, or is kept
pub invariant_of-self : goal.invariant_of-self
invariant_of-self g c =
    let m = g.met.D.Disk in
    let laws : Laws g.D.Disk = record { whole = m.whole; sized = m.sized; seen_bytes = m.seen_bytes; left_bytes = m.left_bytes; seen_may_stay = m.seen_may_stay; counts_now = m.counts_now; only_now = m.only_now } in
    let self = c.args.self.now in
    record {
      within = c.write_out.ensures.within;
      settled = λ is. settled_on g.D.Disk laws (with_gathered self.disk self.gathered) (with_gathered c.write_out.new.disk c.write_out.new.gathered) c.write_out.ensures.quiet (self.settled is);
    }

use Rattle.disk_model.specs.GatheringLaws.{Laws, synced, settled}
use Rattle.disk_model.specs.Gathers.{place_of, bytes_of}
use Rattle.disk_model.proofs.gathering.Gathering.sync_below.Goals as goal

-- the disk did not sync
pub returns-in-Err-clause-quiet : goal.returns-in-Err-clause-quiet
returns-in-Err-clause-quiet g c =
    let m = g.met.D.Disk in
    let laws : Laws g.D.Disk = record { whole = m.whole; sized = m.sized; seen_bytes = m.seen_bytes; left_bytes = m.left_bytes; seen_may_stay = m.seen_may_stay; counts_now = m.counts_now; only_now = m.only_now } in
    let self = c.args.self.now in
    let s = c.sync.ensures in
    synced g.D.Disk laws self.disk c.sync.new.self (place_of self.gathered) (bytes_of self.gathered) c.requires.none self.within s.honesty s.size s.seen s.crash s.time

-- it did
pub returns-clause-quiet : goal.returns-clause-quiet
returns-clause-quiet g c =
    let m = g.met.D.Disk in
    let laws : Laws g.D.Disk = record { whole = m.whole; sized = m.sized; seen_bytes = m.seen_bytes; left_bytes = m.left_bytes; seen_may_stay = m.seen_may_stay; counts_now = m.counts_now; only_now = m.only_now } in
    let self = c.args.self.now in
    let s = c.sync.ensures in
    synced g.D.Disk laws self.disk c.sync.new.self (place_of self.gathered) (bytes_of self.gathered) c.requires.none self.within s.honesty s.size s.seen s.crash s.time

pub returns-clause-durable : goal.returns-clause-durable
returns-clause-durable g c =
    let m = g.met.D.Disk in
    let laws : Laws g.D.Disk = record { whole = m.whole; sized = m.sized; seen_bytes = m.seen_bytes; left_bytes = m.left_bytes; seen_may_stay = m.seen_may_stay; counts_now = m.counts_now; only_now = m.only_now } in
    let self = c.args.self.now in
    let s = c.sync.ensures in
    settled g.D.Disk laws self.disk c.sync.new.self (place_of self.gathered) (bytes_of self.gathered) c.requires.none self.within s.honesty s.size s.seen s.crash s.time c.in_default.ensures.durable

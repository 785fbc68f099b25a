use Rattle.std.proofs.Common.{◌∙◌}
use Rattle.disk_model.specs.GatheringLaws.{Laws, quiet_on}
use Rattle.disk_model.specs.Gathers.{with_gathered}
use Rattle.disk_model.proofs.gathering.Gathering.sync_written.Goals as goal

-- the disk did not sync
pub returns-in_err-sync_below-clause-quiet : goal.returns-in_err-sync_below-clause-quiet
returns-in_err-sync_below-clause-quiet g c =
    let m = g.met.D.Disk in
    let laws : Laws g.D.Disk = record { whole = m.whole; sized = m.sized; seen_bytes = m.seen_bytes; left_bytes = m.left_bytes; seen_may_stay = m.seen_may_stay; counts_now = m.counts_now; only_now = m.only_now } in
    let self = c.args.self.now in
    let mid = c.flush.new.self in
    let new = c.sync_below.new.self in
    quiet_on g.D.Disk laws (with_gathered self.disk self.gathered) (with_gathered mid.disk mid.gathered) (with_gathered new.disk new.gathered) c.flush.ensures.quiet c.sync_below.ensures.quiet

-- it did
pub returns-clause-quiet : goal.returns-clause-quiet
returns-clause-quiet g c =
    let m = g.met.D.Disk in
    let laws : Laws g.D.Disk = record { whole = m.whole; sized = m.sized; seen_bytes = m.seen_bytes; left_bytes = m.left_bytes; seen_may_stay = m.seen_may_stay; counts_now = m.counts_now; only_now = m.only_now } in
    let self = c.args.self.now in
    let mid = c.flush.new.self in
    let new = c.sync_below.new.self in
    quiet_on g.D.Disk laws (with_gathered self.disk self.gathered) (with_gathered mid.disk mid.gathered) (with_gathered new.disk new.gathered) c.flush.ensures.quiet c.sync_below.ensures.quiet

pub returns-clause-durable : goal.returns-clause-durable
returns-clause-durable g c honest b stays =
    let quiet = c.flush.ensures.quiet in
    c.in_ok-sync_below.ensures.durable (quiet.honesty ∙ honest) b stays ∙ quiet.shows honest

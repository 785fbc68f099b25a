use Rattle.std.proofs.Common.{◌≡◌, length, sym, ◌∙◌, ap, arith}
use Rattle.disk_model.specs.Places.{part, overwritten}
use Rattle.disk_model.specs.GatheringLaws.{Laws, fetched, settled_on}
use Rattle.disk_model.specs.Gathers.{place_of, bytes_of, with_gathered, few_of}
use Rattle.disk_model.proofs.gathering.GatheringDisk.read_at.Goals as goal

pub invariant_of-self : goal.invariant_of-self
invariant_of-self g c =
    let m = g.met.D.Disk in
    let laws : Laws g.D.Disk = record { whole = m.whole; sized = m.sized; seen_bytes = m.seen_bytes; left_bytes = m.left_bytes; seen_may_stay = m.seen_may_stay; counts_now = m.counts_now; only_now = m.only_now } in
    let self = c.args.self.now in
    let new = c.fetch.new.self in
    let read = c.fetch.ensures.fetched in
    let quiet = fetched g.D.Disk laws self.disk new c.fetch.result (place_of self.gathered) (bytes_of self.gathered) c.args.at (length c.args.into.now) c.fetch.new.into (few_of self.gathered) read in
    record {
      within = omega (arith, self.within, read.size);
      settled = λ is. settled_on g.D.Disk laws (with_gathered self.disk self.gathered) (with_gathered new self.gathered) quiet (self.settled is);
    }

pub returns-in_err-fetch-clause-time : goal.returns-in_err-fetch-clause-time
returns-in_err-fetch-clause-time g c =
    let m = g.met.D.Disk in
    let laws : Laws g.D.Disk = record { whole = m.whole; sized = m.sized; seen_bytes = m.seen_bytes; left_bytes = m.left_bytes; seen_may_stay = m.seen_may_stay; counts_now = m.counts_now; only_now = m.only_now } in
    let self = c.args.self.now in
    let new = c.fetch.new.self in
    let read = c.fetch.ensures.fetched in
    let time = (fetched g.D.Disk laws self.disk new c.fetch.result (place_of self.gathered) (bytes_of self.gathered) c.args.at (length c.args.into.now) c.fetch.new.into (few_of self.gathered) read).time in
    record { later = time.later; nothing_else = time.nothing_else; keeps = time.keeps; still = time.still }

pub returns-clause-time : goal.returns-clause-time
returns-clause-time g c =
    let m = g.met.D.Disk in
    let laws : Laws g.D.Disk = record { whole = m.whole; sized = m.sized; seen_bytes = m.seen_bytes; left_bytes = m.left_bytes; seen_may_stay = m.seen_may_stay; counts_now = m.counts_now; only_now = m.only_now } in
    let self = c.args.self.now in
    let new = c.fetch.new.self in
    let read = c.fetch.ensures.fetched in
    let time = (fetched g.D.Disk laws self.disk new c.fetch.result (place_of self.gathered) (bytes_of self.gathered) c.args.at (length c.args.into.now) c.fetch.new.into (few_of self.gathered) read).time in
    record { later = time.later; nothing_else = time.nothing_else; keeps = time.keeps; still = time.still }

-- what was gathered lies over what the disk shows
pub returns-clause-bytes : goal.returns-clause-bytes
returns-clause-bytes g c honest =
    let self = c.args.self.now in
    let l = g.D.Disk.seen self.disk in
    let n = length c.args.into.now in
    let got = c.fetch.new.into in
    let long : length got ≡ n = c.fetch.auto.into in
    let whole : length l ≡ g.D.Disk.size self.disk = g.met.D.Disk.whole self.disk honest in
    let gives : got ≡ part l c.args.at (length got) = c.in_ok-fetch.ensures.fetched.gives honest ∙ ap (part l c.args.at) (sym long) in
    c.lay_over.ensures.laid l (omega (arith, long, whole, c.requires)) (omega (arith, whole, self.within)) gives
    ∙ ap (part (overwritten l (place_of self.gathered) (bytes_of self.gathered)) c.args.at) long

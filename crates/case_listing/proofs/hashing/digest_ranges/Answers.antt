use Rattle.std.proofs.Common.{◌+◌, ◌++◌, ℕ, List, get_or, take, sym, subst, IsTrue, arith}
use Rattle.disk_model.specs.Places.{part}
use Rattle.intake.specs.QuietLaws.{quiet_none, quiet_then}
use Rattle.intake.specs.Ranges.{bytes_in}
use Rattle.intake.specs.declared.ranges.ByteRange.{ByteRange}
use Rattle.sha2.specs.Hashers.{Holds256}
use Rattle.case_listing.specs.Hashing.{Adds}
use Rattle.case_listing.proofs.HashLemmas.{no_range, ranges_all, ranges_more}
use Rattle.case_listing.proofs.hashing.digest_ranges.Goals as goal

pub loop-range-init : goal.loop-range-init
loop-range-init g c = record {
  holds = λ honest. c.new-hasher.ensures;
  quiet = quiet_none g.D.Disk c.args.disk.now (g.met.D.Disk.only_now c.args.disk.now);
}

pub hash_range-requires-clause-within : goal.hash_range-requires-clause-within
hash_range-requires-clause-within g c =
    let here = c.requires.within c.loop-range.range-index no_range c.loop-range-test.true in
    let size = c.loop-range.invariant.quiet.size in
    omega (arith, here, size)

pub loop-range-preserved : goal.loop-range-preserved
loop-range-preserved g c =
    let here : ByteRange = get_or c.args.ranges.now c.loop-range.range-index no_range in
    let bytes = g.D.Disk.seen c.args.disk.now in
    let quiet = c.loop-range.invariant.quiet in record {
      holds = λ honest.
          subst (Holds256 c.hash_range.new.hasher) (ranges_more bytes c.args.ranges.now c.loop-range.range-index no_range c.loop-range-test.true)
          (subst (λ (b : List ℕ). Adds c.loop-range.hasher c.hash_range.new.hasher (part b here.start here.length)) (quiet.seen honest)
          (c.in_ok-hash_range.ensures.adds (subst IsTrue (sym quiet.honesty) honest))
          (bytes_in bytes (take c.loop-range.range-index c.args.ranges.now)) (c.loop-range.invariant.holds honest));
      quiet = quiet_then g.D.Disk c.args.disk.now c.loop-range.disk c.hash_range.new.disk quiet c.hash_range.ensures.quiet;
    }

pub returns : goal.returns
returns g c = λ honest.
    let bytes = g.D.Disk.seen c.args.disk.now in
    c.finalize.ensures (bytes_in bytes c.args.ranges.now)
    (subst (Holds256 c.loop-range.hasher) (ranges_all bytes c.args.ranges.now c.loop-range.range-index c.loop-range-test.false) (c.loop-range.invariant.holds honest))

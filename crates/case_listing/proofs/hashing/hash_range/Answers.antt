use Rattle.std.proofs.Common.{◌+◌, ℕ, List, length, take, sym, subst, IsTrue, arith}
use Rattle.std.proofs.lemmas.List.{length-take-le}
use Rattle.disk_model.specs.Places.{part}
use Rattle.intake.specs.QuietLaws.{quiet_none, quiet_then}
use Rattle.case_listing.specs.Hashing.{Adds}
use Rattle.case_listing.proofs.HashLemmas.{adds_none, adds_part}
use Rattle.case_listing.proofs.hashing.hash_range.Goals as goal

pub loop-done-init : goal.loop-done-init
loop-done-init g c = record {
  adds = λ honest. adds_none c.args.hasher.now (g.D.Disk.seen c.args.disk.now) c.args.range.start;
  quiet = quiet_none g.D.Disk c.args.disk.now (g.met.D.Disk.only_now c.args.disk.now);
  within = omega arith;
}

pub loop-done-preserved : goal.loop-done-preserved
loop-done-preserved g c =
    let m = length (take c.min-count.result c.loop-done.buffer) in
    let long = length-take-le c.min-count.result c.loop-done.buffer (omega (arith, c.min-count.ensures)) in
    let quiet = c.loop-done.invariant.quiet in record {
      adds = λ honest.
          adds_part c.args.hasher.now c.loop-done.hasher c.hash_piece.new.hasher (g.D.Disk.seen c.args.disk.now) c.args.range.start c.loop-done.done m _ (omega (arith, long))
          (c.loop-done.invariant.adds honest)
          (subst (λ (b : List ℕ). Adds c.loop-done.hasher c.hash_piece.new.hasher (part b (c.args.range.start + c.loop-done.done) m)) (quiet.seen honest)
          (c.in_ok-hash_piece.ensures.adds (subst IsTrue (sym quiet.honesty) honest)));
      quiet = quiet_then g.D.Disk c.args.disk.now c.loop-done.disk c.hash_piece.new.disk quiet c.hash_piece.ensures.quiet;
      within = omega (arith, c.min-count.ensures, c.loop-done-test.true);
    }

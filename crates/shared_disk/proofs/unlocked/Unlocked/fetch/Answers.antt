use Rattle.std.proofs.Common.{◌≡◌, ◌+◌, ◌∙◌, ap, arith, length, List, ℕ, sym}
use Rattle.disk_model.specs.Places.{part}
use Rattle.disk_model.specs.PartLaws.{part_part}
use Rattle.intake.specs.declared.ranges.ByteRange.{ByteRange}
use Rattle.shared_disk.specs.Steady.{is_in_one}
use Rattle.shared_disk.specs.SteadyLaws.{both_first, both_second, steady_read}
use Rattle.shared_disk.proofs.unlocked.Unlocked.fetch.Goals as goal

pub returns-then-at-into : goal.returns-then-at-into
returns-then-at-into g c = record {
  bytes = λ honest.
      let front = c.args.self.now.front.now in
      let looked = g.S.SharedDisk.looked c.args.self.now.shared.now in
      let n = length c.args.into.now in
      c.copy_part.ensures
      ∙ ap (λ (l : List ℕ). part l c.args.at n) (c.args.self.now.seen.shown (both_first _ _ honest))
      ∙ part_part looked 0 (length front) c.args.at n c.if-at-into.true
      ∙ (let e : 0 + c.args.at ≡ c.args.at = omega arith in ap (λ (k : ℕ). part looked k n) e);
}

pub returns : goal.returns
returns g c = record {
  bytes = λ honest.
      let s = c.args.self.now.shared.now in
      let got = c.read_between.new.into in
      let real = both_first _ _ honest in
      let same : length got ≡ length c.args.into.now = c.read_between.auto.into in
      let whole = g.met.S.SharedDisk.whole s real in
      steady_read c.args.self.now.ranges.items (g.S.SharedDisk.looked s) (g.S.SharedDisk.meanwhile s) c.args.at got
      (λ b held. g.met.S.SharedDisk.lists s b real held ∙ sym whole)
      (omega (arith, same, whole, c.requires))
      (both_second _ _ honest)
      (ap (λ (k : ℕ). is_in_one c.args.self.now.ranges.items c.args.at k) same
      ∙ sym c.if-not-may_read.ensures)
      (c.in_ok-read_between.ensures.bytes real)
      ∙ ap (part (g.S.SharedDisk.looked s) c.args.at) same;
}

use Rattle.std.proofs.Common.{◌≡◌, ◌∙◌, ◌+◌, ℕ, drop, refl, subst, suc, sym, arith}
use Rattle.salvage.specs.Told.{HasAll, copied_cases}
use Rattle.salvage.proofs.CaseLemmas.{all_back, all_past, all_there}
use Rattle.salvage.proofs.cases_found.Found.has_all.Goals as goal

pub loop-read-preserved : goal.loop-read-preserved
loop-read-preserved c = λ all.
    let cases = copied_cases c.args.self.now in
    let reads = c.args.reads.now in
    let i = c.loop-read.read-index in
    let next : i + 1 ≡ suc i = omega arith in
    c.loop-read.invariant
    (all_back cases reads i c.read-item.result c.loop-read-test.true c.read-item.is (c.has.ensures.0 c.if-not-has.false)
    (subst (λ (k : ℕ). HasAll cases (drop k reads)) next all))

pub returns-then-not-has : goal.returns-then-not-has
returns-then-not-has c = (
  λ yes. absurd (cc),
  λ all.
      sym c.if-not-has.true
      ∙ c.has.ensures.1 (all_there (copied_cases c.args.self.now) c.args.reads.now c.loop-read.read-index c.read-item.result c.loop-read-test.true c.read-item.is all),
)

pub returns : goal.returns
returns c = (λ yes. c.loop-read.invariant (all_past (copied_cases c.args.self.now) c.args.reads.now c.loop-read.read-index c.loop-read-test.false), λ all. refl)

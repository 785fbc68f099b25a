use Rattle.std.proofs.Common.{◌≡◌, ◌∙◌, ◌+◌, ℕ, suc, drop, subst, arith}
use Rattle.journal_layout.specs.Case.{case_of}
use Rattle.salvage.specs.Contests.{AreKnown, IsKnown}
use Rattle.salvage.proofs.UseLemmas.{each_back, nothing_behind}
use Rattle.salvage.proofs.doubts.Doubts.of.Goals as goal

pub loop-read-init : goal.loop-read-init
loop-read-init c = record { bound = c.in_ok-doubts.ensures.bound; known = λ last still all. all }

pub loop-read-preserved : goal.loop-read-preserved
loop-read-preserved c = record {
  bound = c.in_ok-take_behind.ensures.bound ∙ c.loop-read.invariant.bound;
  known = λ last still rest.
      let i = c.loop-read.read-index in
      let next : i + 1 ≡ suc i = omega arith in
      c.loop-read.invariant.known last (λ one was. still one (c.in_ok-take_behind.ensures.stay one was))
      (each_back (IsKnown last c.args.behind) c.args.reads.now i c.read-item.result c.loop-read-test.true c.read-item.is
      (λ low high. still (case_of c.read-item.result.entry) (c.in_ok-take_behind.ensures.known low high))
      (subst (λ (n : ℕ). AreKnown last c.args.behind (drop n c.args.reads.now)) next rest));
}

pub returns-clause-known : goal.returns-clause-known
returns-clause-known c =
    c.loop-read.invariant.known c.loop-read.doubts (λ one was. was) (nothing_behind (IsKnown c.loop-read.doubts c.args.behind) c.args.reads.now c.loop-read.read-index c.loop-read-test.false)

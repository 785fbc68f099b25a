use Rattle.std.proofs.Common.{◌≡◌, ◌+◌, ℕ, max, drop, subst, suc, sym, arith}
use Rattle.salvage.specs.Noting.{greatest_copied}
use Rattle.salvage.proofs.NoteLemmas.{greatest_back, greatest_past}
use Rattle.salvage.proofs.noting.last_of.Goals as goal

one_more : (last n after before left all : ℕ) → after ≡ max last n → before ≡ max n left → max last before ≡ all → max after left ≡ all
one_more last n after before left all is back so_far = omega arith

pub loop-read-preserved : goal.loop-read-preserved
loop-read-preserved c =
    let reads = c.args.reads.now in
    let i = c.loop-read.read-index in
    let next : suc i ≡ i + 1 = omega arith in
    subst (λ (k : ℕ). max c.max-last.result (greatest_copied (drop k reads)) ≡ greatest_copied reads) next
    (one_more c.loop-read.last c.number_if_copied.result c.max-last.result (greatest_copied (drop i reads)) (greatest_copied (drop (suc i) reads)) (greatest_copied reads)
    c.max-last.ensures
    (subst (λ (n : ℕ). greatest_copied (drop i reads) ≡ max n (greatest_copied (drop (suc i) reads))) (sym c.number_if_copied.ensures) (greatest_back reads i c.read-item.result c.loop-read-test.true c.read-item.is))
    c.loop-read.invariant)

pub returns : goal.returns
returns c = let past = greatest_past c.args.reads.now c.loop-read.read-index c.loop-read-test.false in omega (arith, past, c.loop-read.invariant)

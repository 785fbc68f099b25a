use Rattle.std.proofs.Common.{◌<◌, ◌+◌, ◌-◌, ◌≡◌, ℕ, List, false, get_or, length, map, inl, inr, sym, ap, ◌∙◌, arith}
use Rattle.std.proofs.lemmas.Bool.{cases_lt}
use Rattle.std.proofs.lemmas.List.{get_or-map}
use Rattle.retention.specs.Rule.{seq_of}
use Rattle.retention.specs.declared.Brief.{Brief}
use Rattle.case_listing.proofs.foreseen.are_rising.Goals as goal

none : Brief
none = record { seq = 0; time = 0; length = 0; pinned = false }

-- one number more rises
one_more : (briefs : List Brief) (i : ℕ) → i < length briefs → seq_of (get_or briefs (i - 1) none) < seq_of (get_or briefs i none)
    → ((k : ℕ) → k + 1 < i → get_or (map seq_of briefs) k 0 < get_or (map seq_of briefs) (k + 1) 0)
    → (k : ℕ) → k + 1 < i + 1 → get_or (map seq_of briefs) k 0 < get_or (map seq_of briefs) (k + 1) 0
one_more briefs i within next rising k less = elim (cases_lt (k + 1) i) as (λ _. get_or (map seq_of briefs) k 0 < get_or (map seq_of briefs) (k + 1) 0) [
  | inl before ↦ rising k before
  | inr last ↦
      let at : i ≡ k + 1 = omega (arith, less, last) in
      let below : i - 1 ≡ k = omega (arith, at) in
      let one : get_or (map seq_of briefs) k 0 ≡ seq_of (get_or briefs (i - 1) none) = get_or-map seq_of briefs k none 0 (omega (arith, at, within)) ∙ ap (λ n. seq_of (get_or briefs n none)) (sym below) in
      let two : get_or (map seq_of briefs) (k + 1) 0 ≡ seq_of (get_or briefs i none) = get_or-map seq_of briefs (k + 1) none 0 (omega (arith, at, within)) ∙ ap (λ n. seq_of (get_or briefs n none)) (sym at) in
      omega (arith, one, two, next)
]

pub loop-i-preserved : goal.loop-i-preserved
unfolding none
loop-i-preserved c = record {
  some = omega arith;
  rising = one_more c.args.briefs.now c.loop-i.i c.loop-i-test.true c.if-briefs-i.false c.loop-i.invariant.rising;
}

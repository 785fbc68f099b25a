use Rattle.std.proofs.Common.{◌<◌, ◌+◌, ◌-◌, ◌≡◌, ℕ, List, [], false, get_or, length, map, inl, inr, sym, ap, ◌∙◌, arith}
use Rattle.std.proofs.lemmas.Bool.{cases_lt}
use Rattle.std.proofs.lemmas.List.{get_or-map}
use Rattle.pruning.specs.Cases.{number}
use Rattle.pruning.specs.declared.cases.Content.TheVariants.{Core}
use Rattle.pruning.specs.declared.cases.LiveCase.{LiveCase}
use Rattle.case_info.proofs.plan.are_rising.Goals as goal

none : LiveCase
none = record { name = record { ref_ptr = (0, 0); now = [] }; brief = record { seq = 0; time = 0; length = 0; pinned = false }; content = Core (record { ref_ptr = (0, 0); now = [] }) }

-- one number more rises
one_more : (cases : List LiveCase) (i : ℕ) → i < length cases → number (get_or cases (i - 1) none) < number (get_or cases i none)
    → ((k : ℕ) → k + 1 < i → get_or (map number cases) k 0 < get_or (map number cases) (k + 1) 0)
    → (k : ℕ) → k + 1 < i + 1 → get_or (map number cases) k 0 < get_or (map number cases) (k + 1) 0
one_more cases i within next rising k less = elim (cases_lt (k + 1) i) as (λ _. get_or (map number cases) k 0 < get_or (map number cases) (k + 1) 0) [
  | inl before ↦ rising k before
  | inr last ↦
      let at : i ≡ k + 1 = omega (arith, less, last) in
      let below : i - 1 ≡ k = omega (arith, at) in
      let one : get_or (map number cases) k 0 ≡ number (get_or cases (i - 1) none) = get_or-map number cases k none 0 (omega (arith, at, within)) ∙ ap (λ n. number (get_or cases n none)) (sym below) in
      let two : get_or (map number cases) (k + 1) 0 ≡ number (get_or cases i none) = get_or-map number cases (k + 1) none 0 (omega (arith, at, within)) ∙ ap (λ n. number (get_or cases n none)) (sym at) in
      omega (arith, one, two, next)
]

pub loop-i-preserved : goal.loop-i-preserved
unfolding none
loop-i-preserved c = record {
  some = omega arith;
  rising = one_more c.args.cases.now c.loop-i.i c.loop-i-test.true c.if-cases-i.false c.loop-i.invariant.rising;
}

-- The row of an address in a sequence is that of the first step across it.
use Rattle.std.proofs.Common.{◌≡◌, ◌<◌, ◌+◌, ℕ, zero, suc, Bool, true, false, cond, List, [], ◌∷◌, Some, refl, ap, ◌∙◌, sym, arith}
use Rattle.std.proofs.lemmas.Option.{same_Some}
use Rattle.std.specs.Prelude.{slice_get}
use Rattle.line_tables.specs.Grammar.{IsStep}
use Rattle.line_tables.specs.Sequences.{crosses, row_at}
use Rattle.line_tables.specs.declared.registers.Row.{Row}

none_before : (v : ℕ) (s : List Row) (j : ℕ) (p q : Row) → j < 0 → slice_get s j ≡ Some p → slice_get s (j + 1) ≡ Some q → crosses v p q ≡ false
none_before v s j p q h here there = absurd (omega arith)

get_up : (r : Row) (s : List Row) (j : ℕ) → slice_get (r ∷ s) (j + 1) ≡ slice_get s j
get_up r s j =
    let up : j + 1 ≡ suc j = omega arith in ap (slice_get (r ∷ s)) up

-- the first step of the others is the first of all if the first row is none
first_up : (v : ℕ) (r q : Row) (s : List Row) (k : ℕ) → crosses v r q ≡ false → ((j : ℕ) (p n : Row) → j < k → slice_get (q ∷ s) j ≡ Some p → slice_get (q ∷ s) (j + 1) ≡ Some n → crosses v p n ≡ false) → (j : ℕ) (p n : Row) → j < k + 1 → slice_get (r ∷ q ∷ s) j ≡ Some p → slice_get (r ∷ q ∷ s) (j + 1) ≡ Some n → crosses v p n ≡ false
first_up v r q s k none f zero p n h here there =
    let one : r ≡ p = same_Some r p here in
    let two : q ≡ n = same_Some q n there in ap (λ x. crosses v x n) (sym one) ∙ ap (crosses v r) (sym two) ∙ none
first_up v r q s k none f (suc j) p n h here there =
    let up : suc j + 1 ≡ suc (j + 1) = omega arith in
    f j p n (omega arith) here (sym (ap (slice_get (r ∷ q ∷ s)) up) ∙ there)

step_by : (v : ℕ) (r q x : Row) (s : List Row) (t : Bool) → crosses v r q ≡ t → cond t (Some r) (row_at v (q ∷ s)) ≡ Some x → (row_at v (q ∷ s) ≡ Some x → IsStep v (q ∷ s) x) → IsStep v (r ∷ q ∷ s) x
step_by v r q x s true is h f =
    let same : r ≡ x = same_Some r x h in
    record {
      index = 0;
      next = q;
      here = h;
      there = refl;
      across = ap (λ y. crosses v y q) (sym same) ∙ is;
      first = none_before v (r ∷ q ∷ s);
    }
step_by v r q x s false is h f =
    let step = f h in
    record {
      index = step.index + 1;
      next = step.next;
      here = get_up r (q ∷ s) step.index ∙ step.here;
      there = get_up r (q ∷ s) (step.index + 1) ∙ step.there;
      across = step.across;
      first = first_up v r q s step.index is step.first;
    }

pub first_step : (v : ℕ) (s : List Row) (r : Row) → row_at v s ≡ Some r → IsStep v s r
unfolding row_at
first_step v [] x h = absurd (cc)
first_step v (r ∷ []) x h = absurd (cc)
first_step v (r ∷ q ∷ s) x h = step_by v r q x s (crosses v r q) refl h (first_step v (q ∷ s) x)

-- The number in the values of addresses in a row.
use Rattle.std.proofs.Common.{◌≡◌, ◌<◌, ℕ, zero, suc, ◌+◌, List, get_or, Option, None, Some, refl, ap, ◌∙◌, arith}
use Rattle.elf_view.specs.Field.{field}
use Rattle.address_space.specs.Source.{Space, value_at, word_at, joined}

-- each has a value
pub word_field : (space : Space) (w a p : ℕ) (b : List ℕ) → ((k : ℕ) → k < w → value_at space (a + k) ≡ Some (get_or b (p + k) 0)) → word_at space a w ≡ Some (field b p w)
unfolding word_at field
word_field space zero a p b values = refl
word_field space (suc w) a p b values =
    let place : a ≡ a + 0 = omega arith in
    let at : p + 0 ≡ p = omega arith in
    let first : value_at space a ≡ Some (get_or b p 0) = ap (value_at space) place ∙ values 0 (omega arith) ∙ ap (λ q. Some (get_or b q 0)) at in
    let rest = word_field space w (a + 1) (p + 1) b (λ k h.
    let e : a + 1 + k ≡ a + suc k = omega arith in
    let f : p + suc k ≡ p + 1 + k = omega arith in
    ap (value_at space) e ∙ values (suc k) (omega arith) ∙ ap (λ q. Some (get_or b q 0)) f) in
    ap (λ o. joined o (word_at space (a + 1) w)) first ∙ ap (joined (Some (get_or b p 0))) rest

joined_none : (o : Option ℕ) → joined o None ≡ None
joined_none None = refl
joined_none (Some x) = refl

-- one has none
pub word_none : (space : Space) (w a k : ℕ) → k < w → value_at space (a + k) ≡ None → word_at space a w ≡ None
unfolding word_at
word_none space zero a k h none = absurd (omega arith)
word_none space (suc w) a zero h none =
    let place : a ≡ a + 0 = omega arith in
    ap (λ o. joined o (word_at space (a + 1) w)) (ap (value_at space) place ∙ none)
word_none space (suc w) a (suc k) h none =
    let place : a + 1 + k ≡ a + suc k = omega arith in
    ap (joined (value_at space a)) (word_none space w (a + 1) k (omega arith) (ap (value_at space) place ∙ none)) ∙ joined_none (value_at space a)

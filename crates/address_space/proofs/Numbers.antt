-- The number in values that are read one by one.
use Rattle.std.proofs.Common.{◌≡◌, ◌<◌, ℕ, ◌+◌, List, length, set, get_or, Some, sym, ap, ◌∙◌, arith, inl, inr}
use Rattle.std.proofs.lemmas.Bool.{cases_lt}
use Rattle.std.proofs.lemmas.List.{get_or-set_same, get_or-set_other}
use Rattle.elf_view.specs.Field.{field}
use Rattle.address_space.specs.Source.{Space, value_at, word_at}
use Rattle.address_space.specs.WordLaws.{word_field}

pub word_front : (space : Space) (w a : ℕ) (b : List ℕ) → ((k : ℕ) → k < w → value_at space (a + k) ≡ Some (get_or b k 0)) → word_at space a w ≡ Some (field b 0 w)
word_front space w a b values = word_field space w a 0 b (λ k h. let e : k ≡ 0 + k = omega arith in values k h ∙ ap (λ q. Some (get_or b q 0)) e)

-- one more value that is stored
pub stored : (space : Space) (a i x at : ℕ) (b : List ℕ) → i < length b → ((k : ℕ) → k < i → value_at space (a + k) ≡ Some (get_or b k 0)) → at ≡ a + i → value_at space at ≡ Some x → (k : ℕ) → k < i + 1 → value_at space (a + k) ≡ Some (get_or (set b i x) k 0)
stored space a i x at b bound before place value k h = elim (cases_lt k i) as (λ _. value_at space (a + k) ≡ Some (get_or (set b i x) k 0)) [
  | inl below ↦ before k below ∙ ap Some (sym (get_or-set_other b i k x 0 (λ e. absurd (omega (arith, e)))))
  | inr above ↦
      let is : i ≡ k = omega arith in
      let here : at ≡ a + k = omega arith in
      ap (value_at space) (sym here) ∙ value ∙ ap Some (sym (get_or-set_same b i x 0 bound)) ∙ ap (λ j. Some (get_or (set b i x) j 0)) is
]

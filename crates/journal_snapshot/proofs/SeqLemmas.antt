-- Numbers that rise, and what a binary search finds among them.
use Rattle.std.proofs.Common.{◌≡◌, ℕ, zero, suc, ◌<◌, ◌≤◌, Bool, true, false, ◌||◌, List, [], ◌∷◌, length, get_or, refl, sym, ap, ◌∙◌, inl, inr, arith, Result, Ok, Err, is_ok, nat_eq}
use Rattle.std.proofs.lemmas.Bool.{eq-eqb, ne_eqb, cases_lt}
use Rattle.std.proofs.lemmas.List.Sorted.{searched}
use Rattle.std.specs.List.Sorted.{IsBinarySearchResult}
use Rattle.std.specs.Ordering.{nat_cmp}
use Rattle.journal_layout.specs.Folding.{is_among}
use Rattle.journal_layout.specs.Soundness.{Rise}

rise_above : (last : ℕ) (seqs : List ℕ) → Rise last seqs → (k : ℕ) → k < length seqs → last < get_or seqs k 0
rise_above last [] rise k below = absurd (omega arith)
rise_above last (seq ∷ rest) rise zero below = rise.0
rise_above last (seq ∷ rest) rise (suc k) below = let first = rise.0 in let h = rise_above seq rest rise.1 k (omega arith) in omega arith

pub rise_sorted : (last : ℕ) (seqs : List ℕ) → Rise last seqs → (i j : ℕ) → i ≤ j → j < length seqs → get_or seqs i 0 ≤ get_or seqs j 0
rise_sorted last [] rise i j le below = absurd (omega arith)
rise_sorted last (seq ∷ rest) rise zero zero le below = omega arith
rise_sorted last (seq ∷ rest) rise zero (suc j) le below = let h = rise_above seq rest rise.1 j (omega arith) in omega arith
rise_sorted last (seq ∷ rest) rise (suc i) zero le below = absurd (omega arith)
rise_sorted last (seq ∷ rest) rise (suc i) (suc j) le below = rise_sorted seq rest rise.1 i j (omega arith) (omega arith)

or_true : (b c : Bool) → c ≡ true → (b || c) ≡ true
or_true true c e = refl
or_true false c e = e

pub among_at : (seqs : List ℕ) (x i : ℕ) → i < length seqs → get_or seqs i 0 ≡ x → is_among seqs x ≡ true
among_at [] x i below is = absurd (omega arith)
among_at (seq ∷ rest) x zero below is = ap (λ (b : Bool). b || is_among rest x) (eq-eqb x seq (sym is))
among_at (seq ∷ rest) x (suc i) below is = or_true (nat_eq x seq) (is_among rest x) (among_at rest x i (omega arith) is)

pub not_among : (seqs : List ℕ) (x : ℕ) → ((k : ℕ) → k < length seqs → get_or seqs k 0 ≡ x → ⊥) → is_among seqs x ≡ false
not_among [] x none = refl
not_among (seq ∷ rest) x none =
    ap (λ (b : Bool). b || is_among rest x) (ne_eqb x seq (λ e. none zero (omega arith) (sym e)))
    ∙ not_among rest x (λ k below e. none (suc k) (omega arith) e)

pub listed : (seqs : List ℕ) (x : ℕ) (r : Result ℕ ℕ) → IsBinarySearchResult (λ (y : ℕ). nat_cmp y x) seqs r → Rise 0 seqs → is_ok r ≡ is_among seqs x
listed seqs x (Ok i) found rise =
    let h = searched seqs x (Ok i) found (rise_sorted 0 seqs rise) in
    sym (among_at seqs x i h.0 h.1)
listed seqs x (Err i) found rise =
    let h = searched seqs x (Err i) found (rise_sorted 0 seqs rise) in
    sym (not_among seqs x (λ k below e.
    elim (cases_lt k i) [
      | inl low ↦ (let g = h.1 k low in omega (arith, e))
      | inr high ↦ (let g = h.2 k high below in omega (arith, e))
    ]))

-- Signals that have no name.
use Rattle.std.proofs.Common.{◌≡◌, ◌<◌, ◌≤◌, ◌+◌, ◌∙◌, sym, subst, arith, ℕ, zero, suc, List, Some, ◌⊎◌, inl, inr, ⊎_elim}
use Rattle.std.proofs.lemmas.Option.{none-some, slice_get_past}
use Rattle.std.proofs.Math.Nat.{eq-or-lt_of_le}
use Rattle.thread_regs.specs.SignalNames.{numbered_name, signal_names}

pub no_name_past : (n : ℕ) (name : List ℕ) → 31 < n → numbered_name n ≡ Some name → ⊥
no_name_past zero name past named = absurd (omega (arith, past))
no_name_past (suc m) name past named = none-some name (sym (slice_get_past signal_names m (omega (arith, past))) ∙ named)

-- none of the first signals has the name, nor has the next one
pub no_more_named : (n : ℕ) (name : List ℕ) → ((k : ℕ) → k < n → numbered_name k ≡ Some name → ⊥) → (numbered_name n ≡ Some name → ⊥)
    → (k : ℕ) → k < n + 1 → numbered_name k ≡ Some name → ⊥
no_more_named n name before next k low named =
    let within : k ≤ n = omega (arith, low) in
    ⊎_elim (λ same. next (subst (λ m. numbered_name m ≡ Some name) same named)) (λ less. before k less named) (eq-or-lt_of_le within)

below_or_not : (a b : ℕ) → (a < b) ⊎ (b ≤ a)
below_or_not zero zero = inr (omega arith)
below_or_not zero (suc b) = inl (omega arith)
below_or_not (suc a) zero = inr (omega arith)
below_or_not (suc a) (suc b) = elim (below_or_not a b) [ inl h ↦ inl (omega (arith, h)) | inr h ↦ inr (omega (arith, h)) ]

-- none up to 31 has the name, so none has
pub none_named : (n : ℕ) (name : List ℕ) → ((k : ℕ) → k < n → numbered_name k ≡ Some name → ⊥) → 31 < n → (k : ℕ) → numbered_name k ≡ Some name → ⊥
none_named n name before past k named =
    ⊎_elim (λ less. before k less named) (λ rest. no_name_past k name (omega (arith, past, rest)) named) (below_or_not k n)

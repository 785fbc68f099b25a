-- The front of a template, one part after the other.
use Rattle.std.proofs.Common.{◌≡◌, ◌≢◌, ◌<◌, ◌≤◌, ℕ, ◌==◌, Bool, true, false, List, [], ◌∷◌, ◌++◌, length, take, drop, get_or, refl, sym, ap, ◌∙◌, append_assoc, arith}
use Rattle.std.proofs.lemmas.Bool.{eqb-true, ne_eqb}
use Rattle.core_handler.specs.Fronts.{shared_front, prints_one_core}

front_plain : (c : ℕ) (cs : List ℕ) → (c == 37) ≡ false → shared_front (c ∷ cs) ≡ c ∷ shared_front cs
unfolding shared_front
front_plain c [] e = rw e refl
front_plain c (d ∷ ds) e = rw e refl

front_one_by : (c : ℕ) (b : Bool) → (c == 37) ≡ b → shared_front (c ∷ []) ≡ c ∷ shared_front []
unfolding shared_front
front_one_by c true e = let h : c ≡ 37 = eqb-true c 37 e in rw h refl
front_one_by c false e = front_plain c [] e

pub front_short : (t : List ℕ) → length t < 2 → shared_front t ≡ take (length t) t ++ shared_front (drop (length t) t)
unfolding shared_front
front_short [] lt = refl
front_short (c ∷ []) lt = front_one_by c (c == 37) refl
front_short (c ∷ d ∷ cs) lt = absurd (omega (arith, lt))

pub front_empty : (t : List ℕ) → length t ≡ 0 → shared_front t ≡ []
unfolding shared_front
front_empty [] e = refl
front_empty (c ∷ cs) e = absurd (omega (arith, e))

pub front_other : (t : List ℕ) → 2 ≤ length t → get_or t 0 0 ≢ 37 → shared_front t ≡ take 1 t ++ shared_front (drop 1 t)
front_other [] le ne = absurd (omega (arith, le))
front_other (c ∷ cs) le ne = front_plain c cs (ne_eqb c 37 ne)

pub front_stop : (t : List ℕ) → 2 ≤ length t → get_or t 0 0 ≡ 37 → prints_one_core (get_or t 1 0) ≡ true → shared_front t ≡ []
unfolding shared_front
front_stop [] le e f = absurd (omega (arith, le))
front_stop (c ∷ []) le e f = absurd (omega (arith, le))
front_stop (c ∷ d ∷ cs) le e f = let h : c ≡ 37 = e in let k : prints_one_core d ≡ true = f in rw h (rw k refl)

pub front_key : (t : List ℕ) → 2 ≤ length t → get_or t 0 0 ≡ 37 → prints_one_core (get_or t 1 0) ≡ false → shared_front t ≡ take 2 t ++ shared_front (drop 2 t)
unfolding shared_front
front_key [] le e f = absurd (omega (arith, le))
front_key (c ∷ []) le e f = absurd (omega (arith, le))
front_key (c ∷ d ∷ cs) le e f = let h : c ≡ 37 = e in let k : prints_one_core d ≡ false = f in rw h (rw k refl)

-- a part more of a front
pub front_more : (t front rest part after : List ℕ) → t ≡ front ++ rest → shared_front t ≡ front ++ shared_front rest
    → rest ≡ part ++ after → shared_front rest ≡ part ++ shared_front after
    → (more : List ℕ) × (t ≡ more ++ after) × (shared_front t ≡ more ++ shared_front after)
front_more t front rest part after e s f u =
    (front ++ part, e ∙ ap (λ x. front ++ x) f ∙ sym (append_assoc front part after), s ∙ ap (λ x. front ++ x) u ∙ sym (append_assoc front part (shared_front after)))

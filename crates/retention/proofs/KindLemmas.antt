-- Which cases go and which stay, by their kinds.
use Rattle.std.proofs.Common.{◌≡◌, ℕ, zero, suc, Bool, true, false, not, ◌&&◌, List, [], ◌∷◌, take, drop, filter, refl, sym, ap, ◌∙◌, ⊎_elim, ◌⊎◌, inl, inr}
use Rattle.retention.specs.declared.Brief.{Brief}
use Rattle.retention.specs.declared.Policy.{Policy}
use Rattle.retention.specs.Rule.{is_pinned, is_before, is_old, is_spare, goes, stays}
use Rattle.retention.proofs.StayLemmas.{stays-old, stays-none, stays-spare, stays-pinned}

goes-old : (policy : Policy) (n : ℕ) (c : Brief) (cs : List Brief) → is_old policy c ≡ true → goes policy n (c ∷ cs) ≡ c ∷ goes policy n cs
goes-old policy zero c cs old = rw old
goes-old policy (suc n) c cs old = rw old

goes-none : (policy : Policy) (c : Brief) (cs : List Brief) → is_old policy c ≡ false → goes policy 0 (c ∷ cs) ≡ goes policy 0 cs
goes-none policy c cs young = rw young

goes-spare : (policy : Policy) (n : ℕ) (c : Brief) (cs : List Brief) → is_old policy c ≡ false → is_spare policy c ≡ true → goes policy (suc n) (c ∷ cs) ≡ c ∷ goes policy n cs
goes-spare policy n c cs young spare = rw (young, spare)

goes-pinned : (policy : Policy) (n : ℕ) (c : Brief) (cs : List Brief) → is_old policy c ≡ false → is_spare policy c ≡ false → goes policy n (c ∷ cs) ≡ goes policy n cs
goes-pinned policy zero c cs young pinned = rw young
goes-pinned policy (suc n) c cs young pinned = rw (young, pinned)

filter-in : (p : Brief → Bool) (c : Brief) (cs : List Brief) → p c ≡ true → filter p (c ∷ cs) ≡ c ∷ filter p cs
filter-in p c cs e = rw e

filter-out : (p : Brief → Bool) (c : Brief) (cs : List Brief) → p c ≡ false → filter p (c ∷ cs) ≡ filter p cs
filter-out p c cs e = rw e

-- a case is old, spare or pinned, and only one of them
by_bits : (p b : Bool) → (((not p && b) ≡ true) × ((not p && not b) ≡ false) × (p ≡ false))
    ⊎ ((((not p && b) ≡ false) × ((not p && not b) ≡ true) × (p ≡ false)) ⊎ (((not p && b) ≡ false) × ((not p && not b) ≡ false) × (p ≡ true)))
by_bits true true = inr (inr (refl, refl, refl))
by_bits true false = inr (inr (refl, refl, refl))
by_bits false true = inl (refl, refl, refl)
by_bits false false = inr (inl (refl, refl, refl))

kinds : (policy : Policy) (c : Brief) → ((is_old policy c ≡ true) × (is_spare policy c ≡ false) × (is_pinned c ≡ false))
    ⊎ (((is_old policy c ≡ false) × (is_spare policy c ≡ true) × (is_pinned c ≡ false)) ⊎ ((is_old policy c ≡ false) × (is_spare policy c ≡ false) × (is_pinned c ≡ true)))
kinds policy c = by_bits c.pinned (is_before c.time policy.before)

pub old_go : (policy : Policy) (n : ℕ) (cases : List Brief) → filter (is_old policy) (goes policy n cases) ≡ filter (is_old policy) cases
old_go policy n [] = refl
old_go policy zero (c ∷ cs) =
    ⊎_elim
    (λ (o : (is_old policy c ≡ true) × (is_spare policy c ≡ false) × (is_pinned c ≡ false)). ap (filter (is_old policy)) (goes-old policy 0 c cs o.0) ∙ filter-in (is_old policy) c (goes policy 0 cs) o.0 ∙ ap (λ xs. c ∷ xs) (old_go policy 0 cs) ∙ sym (filter-in (is_old policy) c cs o.0))
    (λ k. ⊎_elim
    (λ (s : (is_old policy c ≡ false) × (is_spare policy c ≡ true) × (is_pinned c ≡ false)). ap (filter (is_old policy)) (goes-none policy c cs s.0) ∙ old_go policy 0 cs ∙ sym (filter-out (is_old policy) c cs s.0))
    (λ (p : (is_old policy c ≡ false) × (is_spare policy c ≡ false) × (is_pinned c ≡ true)). ap (filter (is_old policy)) (goes-pinned policy 0 c cs p.0 p.1) ∙ old_go policy 0 cs ∙ sym (filter-out (is_old policy) c cs p.0))
    k)
    (kinds policy c)
old_go policy (suc n) (c ∷ cs) =
    ⊎_elim
    (λ (o : (is_old policy c ≡ true) × (is_spare policy c ≡ false) × (is_pinned c ≡ false)). ap (filter (is_old policy)) (goes-old policy (suc n) c cs o.0) ∙ filter-in (is_old policy) c (goes policy (suc n) cs) o.0 ∙ ap (λ xs. c ∷ xs) (old_go policy (suc n) cs) ∙ sym (filter-in (is_old policy) c cs o.0))
    (λ k. ⊎_elim
    (λ (s : (is_old policy c ≡ false) × (is_spare policy c ≡ true) × (is_pinned c ≡ false)). ap (filter (is_old policy)) (goes-spare policy n c cs s.0 s.1) ∙ filter-out (is_old policy) c (goes policy n cs) s.0 ∙ old_go policy n cs ∙ sym (filter-out (is_old policy) c cs s.0))
    (λ (p : (is_old policy c ≡ false) × (is_spare policy c ≡ false) × (is_pinned c ≡ true)). ap (filter (is_old policy)) (goes-pinned policy (suc n) c cs p.0 p.1) ∙ old_go policy (suc n) cs ∙ sym (filter-out (is_old policy) c cs p.0))
    k)
    (kinds policy c)

pub old_stay : (policy : Policy) (n : ℕ) (cases : List Brief) → filter (is_old policy) (stays policy n cases) ≡ []
old_stay policy n [] = refl
old_stay policy zero (c ∷ cs) =
    ⊎_elim
    (λ (o : (is_old policy c ≡ true) × (is_spare policy c ≡ false) × (is_pinned c ≡ false)). ap (filter (is_old policy)) (stays-old policy 0 c cs o.0) ∙ old_stay policy 0 cs)
    (λ k. ⊎_elim
    (λ (s : (is_old policy c ≡ false) × (is_spare policy c ≡ true) × (is_pinned c ≡ false)). ap (filter (is_old policy)) (stays-none policy c cs s.0) ∙ filter-out (is_old policy) c (stays policy 0 cs) s.0 ∙ old_stay policy 0 cs)
    (λ (p : (is_old policy c ≡ false) × (is_spare policy c ≡ false) × (is_pinned c ≡ true)). ap (filter (is_old policy)) (stays-pinned policy 0 c cs p.0 p.1) ∙ filter-out (is_old policy) c (stays policy 0 cs) p.0 ∙ old_stay policy 0 cs)
    k)
    (kinds policy c)
old_stay policy (suc n) (c ∷ cs) =
    ⊎_elim
    (λ (o : (is_old policy c ≡ true) × (is_spare policy c ≡ false) × (is_pinned c ≡ false)). ap (filter (is_old policy)) (stays-old policy (suc n) c cs o.0) ∙ old_stay policy (suc n) cs)
    (λ k. ⊎_elim
    (λ (s : (is_old policy c ≡ false) × (is_spare policy c ≡ true) × (is_pinned c ≡ false)). ap (filter (is_old policy)) (stays-spare policy n c cs s.1) ∙ old_stay policy n cs)
    (λ (p : (is_old policy c ≡ false) × (is_spare policy c ≡ false) × (is_pinned c ≡ true)). ap (filter (is_old policy)) (stays-pinned policy (suc n) c cs p.0 p.1) ∙ filter-out (is_old policy) c (stays policy (suc n) cs) p.0 ∙ old_stay policy (suc n) cs)
    k)
    (kinds policy c)

pub spare_go : (policy : Policy) (n : ℕ) (cases : List Brief) → filter (is_spare policy) (goes policy n cases) ≡ take n (filter (is_spare policy) cases)
spare_go policy zero [] = refl
spare_go policy (suc n) [] = refl
spare_go policy zero (c ∷ cs) =
    ⊎_elim
    (λ (o : (is_old policy c ≡ true) × (is_spare policy c ≡ false) × (is_pinned c ≡ false)). ap (filter (is_spare policy)) (goes-old policy 0 c cs o.0) ∙ filter-out (is_spare policy) c (goes policy 0 cs) o.1 ∙ spare_go policy 0 cs ∙ sym (ap (take 0) (filter-out (is_spare policy) c cs o.1)))
    (λ k. ⊎_elim
    (λ (s : (is_old policy c ≡ false) × (is_spare policy c ≡ true) × (is_pinned c ≡ false)). ap (filter (is_spare policy)) (goes-none policy c cs s.0) ∙ spare_go policy 0 cs ∙ sym (ap (take 0) (filter-in (is_spare policy) c cs s.1)))
    (λ (p : (is_old policy c ≡ false) × (is_spare policy c ≡ false) × (is_pinned c ≡ true)). ap (filter (is_spare policy)) (goes-pinned policy 0 c cs p.0 p.1) ∙ spare_go policy 0 cs ∙ sym (ap (take 0) (filter-out (is_spare policy) c cs p.1)))
    k)
    (kinds policy c)
spare_go policy (suc n) (c ∷ cs) =
    ⊎_elim
    (λ (o : (is_old policy c ≡ true) × (is_spare policy c ≡ false) × (is_pinned c ≡ false)). ap (filter (is_spare policy)) (goes-old policy (suc n) c cs o.0) ∙ filter-out (is_spare policy) c (goes policy (suc n) cs) o.1 ∙ spare_go policy (suc n) cs ∙ sym (ap (take (suc n)) (filter-out (is_spare policy) c cs o.1)))
    (λ k. ⊎_elim
    (λ (s : (is_old policy c ≡ false) × (is_spare policy c ≡ true) × (is_pinned c ≡ false)). ap (filter (is_spare policy)) (goes-spare policy n c cs s.0 s.1) ∙ filter-in (is_spare policy) c (goes policy n cs) s.1 ∙ ap (λ xs. c ∷ xs) (spare_go policy n cs) ∙ sym (ap (take (suc n)) (filter-in (is_spare policy) c cs s.1)))
    (λ (p : (is_old policy c ≡ false) × (is_spare policy c ≡ false) × (is_pinned c ≡ true)). ap (filter (is_spare policy)) (goes-pinned policy (suc n) c cs p.0 p.1) ∙ spare_go policy (suc n) cs ∙ sym (ap (take (suc n)) (filter-out (is_spare policy) c cs p.1)))
    k)
    (kinds policy c)

pub spare_stay : (policy : Policy) (n : ℕ) (cases : List Brief) → filter (is_spare policy) (stays policy n cases) ≡ drop n (filter (is_spare policy) cases)
spare_stay policy zero [] = refl
spare_stay policy (suc n) [] = refl
spare_stay policy zero (c ∷ cs) =
    ⊎_elim
    (λ (o : (is_old policy c ≡ true) × (is_spare policy c ≡ false) × (is_pinned c ≡ false)). ap (filter (is_spare policy)) (stays-old policy 0 c cs o.0) ∙ spare_stay policy 0 cs ∙ sym (ap (drop 0) (filter-out (is_spare policy) c cs o.1)))
    (λ k. ⊎_elim
    (λ (s : (is_old policy c ≡ false) × (is_spare policy c ≡ true) × (is_pinned c ≡ false)). ap (filter (is_spare policy)) (stays-none policy c cs s.0) ∙ filter-in (is_spare policy) c (stays policy 0 cs) s.1 ∙ ap (λ xs. c ∷ xs) (spare_stay policy 0 cs) ∙ sym (ap (drop 0) (filter-in (is_spare policy) c cs s.1)))
    (λ (p : (is_old policy c ≡ false) × (is_spare policy c ≡ false) × (is_pinned c ≡ true)). ap (filter (is_spare policy)) (stays-pinned policy 0 c cs p.0 p.1) ∙ filter-out (is_spare policy) c (stays policy 0 cs) p.1 ∙ spare_stay policy 0 cs ∙ sym (ap (drop 0) (filter-out (is_spare policy) c cs p.1)))
    k)
    (kinds policy c)
spare_stay policy (suc n) (c ∷ cs) =
    ⊎_elim
    (λ (o : (is_old policy c ≡ true) × (is_spare policy c ≡ false) × (is_pinned c ≡ false)). ap (filter (is_spare policy)) (stays-old policy (suc n) c cs o.0) ∙ spare_stay policy (suc n) cs ∙ sym (ap (drop (suc n)) (filter-out (is_spare policy) c cs o.1)))
    (λ k. ⊎_elim
    (λ (s : (is_old policy c ≡ false) × (is_spare policy c ≡ true) × (is_pinned c ≡ false)). ap (filter (is_spare policy)) (stays-spare policy n c cs s.1) ∙ spare_stay policy n cs ∙ sym (ap (drop (suc n)) (filter-in (is_spare policy) c cs s.1)))
    (λ (p : (is_old policy c ≡ false) × (is_spare policy c ≡ false) × (is_pinned c ≡ true)). ap (filter (is_spare policy)) (stays-pinned policy (suc n) c cs p.0 p.1) ∙ filter-out (is_spare policy) c (stays policy (suc n) cs) p.1 ∙ spare_stay policy (suc n) cs ∙ sym (ap (drop (suc n)) (filter-out (is_spare policy) c cs p.1)))
    k)
    (kinds policy c)

pub pinned_go : (policy : Policy) (n : ℕ) (cases : List Brief) → filter is_pinned (goes policy n cases) ≡ []
pinned_go policy n [] = refl
pinned_go policy zero (c ∷ cs) =
    ⊎_elim
    (λ (o : (is_old policy c ≡ true) × (is_spare policy c ≡ false) × (is_pinned c ≡ false)). ap (filter is_pinned) (goes-old policy 0 c cs o.0) ∙ filter-out is_pinned c (goes policy 0 cs) o.2 ∙ pinned_go policy 0 cs)
    (λ k. ⊎_elim
    (λ (s : (is_old policy c ≡ false) × (is_spare policy c ≡ true) × (is_pinned c ≡ false)). ap (filter is_pinned) (goes-none policy c cs s.0) ∙ pinned_go policy 0 cs)
    (λ (p : (is_old policy c ≡ false) × (is_spare policy c ≡ false) × (is_pinned c ≡ true)). ap (filter is_pinned) (goes-pinned policy 0 c cs p.0 p.1) ∙ pinned_go policy 0 cs)
    k)
    (kinds policy c)
pinned_go policy (suc n) (c ∷ cs) =
    ⊎_elim
    (λ (o : (is_old policy c ≡ true) × (is_spare policy c ≡ false) × (is_pinned c ≡ false)). ap (filter is_pinned) (goes-old policy (suc n) c cs o.0) ∙ filter-out is_pinned c (goes policy (suc n) cs) o.2 ∙ pinned_go policy (suc n) cs)
    (λ k. ⊎_elim
    (λ (s : (is_old policy c ≡ false) × (is_spare policy c ≡ true) × (is_pinned c ≡ false)). ap (filter is_pinned) (goes-spare policy n c cs s.0 s.1) ∙ filter-out is_pinned c (goes policy n cs) s.2 ∙ pinned_go policy n cs)
    (λ (p : (is_old policy c ≡ false) × (is_spare policy c ≡ false) × (is_pinned c ≡ true)). ap (filter is_pinned) (goes-pinned policy (suc n) c cs p.0 p.1) ∙ pinned_go policy (suc n) cs)
    k)
    (kinds policy c)

pub pinned_stay : (policy : Policy) (n : ℕ) (cases : List Brief) → filter is_pinned (stays policy n cases) ≡ filter is_pinned cases
pinned_stay policy n [] = refl
pinned_stay policy zero (c ∷ cs) =
    ⊎_elim
    (λ (o : (is_old policy c ≡ true) × (is_spare policy c ≡ false) × (is_pinned c ≡ false)). ap (filter is_pinned) (stays-old policy 0 c cs o.0) ∙ pinned_stay policy 0 cs ∙ sym (filter-out is_pinned c cs o.2))
    (λ k. ⊎_elim
    (λ (s : (is_old policy c ≡ false) × (is_spare policy c ≡ true) × (is_pinned c ≡ false)). ap (filter is_pinned) (stays-none policy c cs s.0) ∙ filter-out is_pinned c (stays policy 0 cs) s.2 ∙ pinned_stay policy 0 cs ∙ sym (filter-out is_pinned c cs s.2))
    (λ (p : (is_old policy c ≡ false) × (is_spare policy c ≡ false) × (is_pinned c ≡ true)). ap (filter is_pinned) (stays-pinned policy 0 c cs p.0 p.1) ∙ filter-in is_pinned c (stays policy 0 cs) p.2 ∙ ap (λ xs. c ∷ xs) (pinned_stay policy 0 cs) ∙ sym (filter-in is_pinned c cs p.2))
    k)
    (kinds policy c)
pinned_stay policy (suc n) (c ∷ cs) =
    ⊎_elim
    (λ (o : (is_old policy c ≡ true) × (is_spare policy c ≡ false) × (is_pinned c ≡ false)). ap (filter is_pinned) (stays-old policy (suc n) c cs o.0) ∙ pinned_stay policy (suc n) cs ∙ sym (filter-out is_pinned c cs o.2))
    (λ k. ⊎_elim
    (λ (s : (is_old policy c ≡ false) × (is_spare policy c ≡ true) × (is_pinned c ≡ false)). ap (filter is_pinned) (stays-spare policy n c cs s.1) ∙ pinned_stay policy n cs ∙ sym (filter-out is_pinned c cs s.2))
    (λ (p : (is_old policy c ≡ false) × (is_spare policy c ≡ false) × (is_pinned c ≡ true)). ap (filter is_pinned) (stays-pinned policy (suc n) c cs p.0 p.1) ∙ filter-in is_pinned c (stays policy (suc n) cs) p.2 ∙ ap (λ xs. c ∷ xs) (pinned_stay policy (suc n) cs) ∙ sym (filter-in is_pinned c cs p.2))
    k)
    (kinds policy c)

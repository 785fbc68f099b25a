-- The bars of a plot.
use Rattle.std.proofs.Common.{◌≡◌, ◌<◌, ◌≤◌, ◌+◌, ◌-◌, ◌/◌, ◌==◌, ◌&&◌, ◌||◌, ◌++◌, ◌∷◌, [], ℕ, zero, suc, Bool, true, false, List, filter, length, nat_le, nat_lt, if◌then◌else◌, refl, sym, ◌∙◌, arith}
use Rattle.std.specs.List.{sum}
use Rattle.std.proofs.lemmas.List.Sums.{sum_by-append}
use Rattle.case_pages.specs.Bars.{bars, height, is_among, is_in_bar}

-- a list of those with one more, if each of these has it
one_more : (a b c : Bool) (x : ℕ) (us vs ws : List ℕ) → a ≡ b || c → b && c ≡ false → length us ≡ length vs + length ws
    → length (if a then x ∷ us else us) ≡ length (if b then x ∷ vs else vs) + length (if c then x ∷ ws else ws)
one_more false false false x us vs ws e d s = s
one_more false false true x us vs ws e d s = grind (arith, e)
one_more false true false x us vs ws e d s = grind (arith, e)
one_more false true true x us vs ws e d s = grind (arith, e)
one_more true false false x us vs ws e d s = grind (arith, e)
one_more true false true x us vs ws e d s = omega (arith, s)
one_more true true false x us vs ws e d s = omega (arith, s)
one_more true true true x us vs ws e d s = grind (arith, d)

in_one : (q first n : ℕ) → nat_le first q && nat_lt q (first + suc n) ≡ (nat_le first q && nat_lt q (first + n)) || q == first + n
in_one q first n = grind arith

not_in_two : (q first n : ℕ) → (nat_le first q && nat_lt q (first + n)) && q == first + n ≡ false
not_in_two q first n = grind arith

-- the bar behind so many has the times that these lack
split : (step first n : ℕ) (ts : List ℕ) → length (filter (is_among step first (suc n)) ts) ≡ length (filter (is_among step first n) ts) + height step (first + n) ts
split step first n [] = refl
split step first n (t ∷ ts) = one_more (is_among step first (suc n) t) (is_among step first n t) (is_in_bar step (first + n) t) t _ _ _ (in_one (t / step) first n) (not_in_two (t / step) first n) (split step first n ts)

none : (step first : ℕ) (ts : List ℕ) → length (filter (is_among step first 0) ts) ≡ 0
none step first [] = refl
none step first (t ∷ ts) = grind (arith, none step first ts)

pub each_in_one : (step first n : ℕ) (ts : List ℕ) → sum (bars step first n ts) ≡ length (filter (is_among step first n) ts)
each_in_one step first zero ts = sym (none step first ts)
each_in_one step first (suc n) ts =
    let h = sum_by-append (λ x. x) (bars step first n ts) (height step (first + n) ts ∷ []) in
    let r = each_in_one step first n ts in
    let s = split step first n ts in
    omega (arith, h, r, s)

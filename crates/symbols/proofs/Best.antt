-- The function that gives an address its name, as functions sorted by value are asked from the last one down.
use Rattle.std.proofs.Common.{◌≡◌, ◌<◌, ◌≤◌, ◌+◌, ◌-◌, ◌^◌, ◌&&◌, ◌||◌, ℕ, zero, suc, Bool, true, false, cond, List, [], ◌∷◌, ◌++◌, Option, Some, None, All, length, get_or, take, drop, max, ltb, leb, eqb, refl, sym, ap, subst, ◌∙◌, arith}
use Rattle.std.proofs.lemmas.Bool.{ltb-true, le-ltb, ne_eqb}
use Rattle.std.proofs.lemmas.List.{take-append-drop, get_or-take, get_or-drop, length-take, length-drop}
use Rattle.std.proofs.lemmas.List.Elements.{All-nil, All-cons, All-head, All-tail, All-from_get_or}
use Rattle.std.proofs.Math.Seq.{take-suc}
use Rattle.std.specs.List.Sorted.{IsNonDecreasingBy}
use Rattle.symbols.specs.Covering.{covers, is_before, nearer, best_with, named}
use Rattle.symbols.specs.Reach.{last_of, greatest_ends, is_past}
use Rattle.symbols.specs.declared.functions.Function.{Function}

-- the best of some functions and of one before
abbrev pub kept : ℕ → Option Function → List Function → Option Function
kept v best [] = best
kept v best (f ∷ fs) = best_with v f (kept v best fs)

pub kept_none : (v : ℕ) (fs : List Function) → named v fs ≡ kept v None fs
kept_none v [] = refl
kept_none v (f ∷ fs) = ap (best_with v f) (kept_none v fs)

pub kept-append : (v : ℕ) (best : Option Function) (fs gs : List Function) → kept v best (fs ++ gs) ≡ kept v (kept v best gs) fs
kept-append v best [] gs = refl
kept-append v best (f ∷ fs) gs = ap (best_with v f) (kept-append v best fs gs)

-- the last of those that are left is asked
pub kept_more : (v : ℕ) (best : Option Function) (fs : List Function) (i : ℕ) (d : Function) → i < length fs → kept v best (take (i + 1) fs) ≡ kept v (best_with v (get_or fs i d) best) (take i fs)
kept_more v best fs i d h =
    let up : i + 1 ≡ suc i = omega arith in
    ap (λ n. kept v best (take n fs)) up ∙ ap (kept v best) (take-suc fs i d h) ∙ kept-append v best (take i fs) (get_or fs i d ∷ [])

-- those that don't cover the address change nothing
pub kept_unnamed : (v : ℕ) (best : Option Function) (fs : List Function) → All (λ f. covers v f ≡ false) fs → kept v best fs ≡ best
kept_unnamed v best [] h = refl
kept_unnamed v best (f ∷ fs) h =
    ap (λ t. cond t (nearer f (kept v best fs)) (kept v best fs)) (All-head (λ f. covers v f ≡ false) f fs h) ∙ kept_unnamed v best fs (All-tail (λ f. covers v f ≡ false) f fs h)

-- nor do those of smaller values than the best so far
behind : (f b : Function) → f.value < b.value → is_before f b ≡ false
unfolding is_before
behind f b h =
    ap (λ t. cond t (cond (eqb f.rank b.rank) (ltb f.index b.index) (ltb f.rank b.rank)) (ltb b.value f.value)) (ne_eqb f.value b.value (λ e. omega arith)) ∙ le-ltb b.value f.value (omega arith)

either_way : (t u : Bool) (f b : Function) → u ≡ false → cond t (cond u (Some f) (Some b)) (Some b) ≡ Some b
either_way true u f b h = ap (λ w. cond w (Some f) (Some b)) h
either_way false u f b h = refl

pub kept_past : (v : ℕ) (b : Function) (fs : List Function) → All (λ f. f.value < b.value) fs → kept v (Some b) fs ≡ Some b
kept_past v b [] h = refl
kept_past v b (f ∷ fs) h =
    ap (best_with v f) (kept_past v b fs (All-tail (λ f. f.value < b.value) f fs h)) ∙ either_way (covers v f) (is_before f b) f b (behind f b (All-head (λ f. f.value < b.value) f fs h))

-- a function that ends before the address does not cover it
uncovered : (v : ℕ) (f : Function) → v < 2 ^ 64 → last_of f < v → covers v f ≡ false
uncovered v f small h =
    let beyond : f.value + (f.size - 1) < v = omega arith in
    let past : ltb v (f.value + f.size) ≡ false = le-ltb v (f.value + f.size) (omega arith) in
    let other : eqb v f.value ≡ false = ne_eqb v f.value (λ e. omega arith) in
    ap (λ t. leb f.value v && (t || eqb v f.value)) past ∙ ap (λ t. leb f.value v && t) other ∙ neither (leb f.value v)
  where
    neither : (t : Bool) → (t && false) ≡ false
    neither true = refl
    neither false = refl

-- the greatest ends never fall
reach_above : (m : ℕ) (fs : List Function) (i : ℕ) → i < length fs → m ≤ get_or (greatest_ends m fs) i 0
reach_above m [] i h = absurd (omega arith)
reach_above m (f ∷ fs) zero h = omega arith
reach_above m (f ∷ fs) (suc i) h =
    let later = reach_above (max (last_of f) m) fs i (omega arith) in omega arith

-- where the greatest end up to a function is before the address, none up to it covers the address
pub unreached : (v m : ℕ) (fs : List Function) (i : ℕ) → v < 2 ^ 64 → i < length fs → get_or (greatest_ends m fs) i 0 < v → All (λ f. covers v f ≡ false) (take (suc i) fs)
unreached v m [] i small h short = absurd (omega arith)
unreached v m (f ∷ fs) zero small h short =
    All-cons (λ f. covers v f ≡ false) f [] (uncovered v f small (omega arith)) (All-nil (λ f. covers v f ≡ false))
unreached v m (f ∷ fs) (suc i) small h short =
    let above = reach_above (max (last_of f) m) fs i (omega arith) in
    All-cons (λ f. covers v f ≡ false) f (take (suc i) fs) (uncovered v f small (omega arith)) (unreached v (max (last_of f) m) fs i small (omega arith) short)

-- functions up to one of a smaller value than the best have smaller values too
pub all_past : (fs : List Function) (i n : ℕ) (d : Function) → IsNonDecreasingBy (λ (f : Function). f.value) fs → i < length fs → (get_or fs i d).value < n → All (λ f. f.value < n) (take (suc i) fs)
all_past fs i n d ordered h less =
    All-from_get_or (λ f. f.value < n) (take (suc i) fs) d (λ k lt.
    let below : k < suc i = omega (arith, length-take (suc i) fs, lt) in
    let rises = ordered k i d (omega arith) h in
    subst (λ (f : Function). f.value < n) (sym (get_or-take (suc i) fs k d below)) (omega arith))

-- the same of one more
up_one : (v : ℕ) (best : Option Function) (fs : List Function) (i : ℕ) → kept v best (take (i + 1) fs) ≡ kept v best (take (suc i) fs)
up_one v best fs i =
    let up : i + 1 ≡ suc i = omega arith in ap (λ n. kept v best (take n fs)) up

pub stop_unreached : (v : ℕ) (best : Option Function) (fs : List Function) (ends : List ℕ) (i : ℕ) → v < 2 ^ 64 → i < length fs → ends ≡ greatest_ends 0 fs → get_or ends i 0 < v → kept v best (take (i + 1) fs) ≡ best
stop_unreached v best fs ends i small h is short =
    let short_too : get_or (greatest_ends 0 fs) i 0 < v = subst (λ (es : List ℕ). get_or es i 0 < v) is short in
    up_one v best fs i ∙ kept_unnamed v best (take (suc i) fs) (unreached v 0 fs i small h short_too)

pub stop_past : (v : ℕ) (best : Option Function) (fs : List Function) (i : ℕ) (d : Function) → IsNonDecreasingBy (λ (f : Function). f.value) fs → i < length fs → is_past best (get_or fs i d) ≡ true → kept v best (take (i + 1) fs) ≡ best
stop_past v None fs i d ordered h past = cc
stop_past v (Some b) fs i d ordered h past =
    up_one v (Some b) fs i ∙ kept_past v b (take (suc i) fs) (all_past fs i b.value d ordered h (ltb-true (get_or fs i d).value b.value past))

-- those from the first greater value on cover nothing
pub kept_front : (v : ℕ) (fs : List Function) (n : ℕ) → ((k : ℕ) (d : Function) → n ≤ k → k < length fs → leb (get_or fs k d).value v ≡ false) → n ≤ length fs → named v (take n fs) ≡ named v fs
kept_front v fs n greater h =
    let none : All (λ f. covers v f ≡ false) (drop n fs) = λ k d lt.
    ap (λ (f : Function). covers v f) (get_or-drop n fs k d) ∙ ap (λ t. t && (ltb v ((get_or fs (n + k) d).value + (get_or fs (n + k) d).size) || eqb v (get_or fs (n + k) d).value)) (greater (n + k) d (omega arith) (omega (arith, length-drop n fs, lt))) in
    kept_none v (take n fs)
    ∙ ap (λ best. kept v best (take n fs)) (sym (kept_unnamed v None (drop n fs) none))
    ∙ sym (kept-append v None (take n fs) (drop n fs))
    ∙ ap (kept v None) (take-append-drop n fs)
    ∙ sym (kept_none v fs)

pub length_ends : (m : ℕ) (fs : List Function) → length (greatest_ends m fs) ≡ length fs
length_ends m [] = refl
length_ends m (f ∷ fs) = ap suc (length_ends (max (last_of f) m) fs)

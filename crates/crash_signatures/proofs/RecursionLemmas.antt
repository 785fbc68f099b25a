-- Cycles, their periods and their turns.
use Rattle.std.proofs.Common.{◌≡◌, ℕ, zero, suc, ◌+◌, ◌-◌, ◌<◌, ◌≤◌, Bool, true, false, cond, List, [], ◌∷◌, length, take, drop, drop-cons, get_or, map, Option, None, Some, option_map, refl, sym, ap, ◌∙◌, arith}
use Rattle.std.specs.Prelude.{min, nat_le}
use Rattle.std.proofs.lemmas.Bool.{le-ltb, leb-false, leb-true}
use Rattle.std.proofs.lemmas.List.{drop_all, length-drop, length-map}
use Rattle.crash_signatures.specs.Recursion.{cycle_among, cycle_at, has_period, or_else, period_from, period_at}
use Rattle.crash_signatures.specs.WordViews.{said}
use Rattle.crash_signatures.specs.Words.{WordSaid, same_words}
use Rattle.crash_signatures.specs.declared.words.Word.{Word}
use Rattle.crash_signatures.proofs.SliceLemmas.{said_from, said_to, said_within}

pub repeats : (run : List Word) (p : ℕ) (r : Bool) → r ≡ same_words (map said (take (length run - p) (drop p run))) (map said (take (64 - p) run)) → r ≡ has_period p (map said run)
repeats run p r is =
    is ∙ ap (λ (l : List WordSaid). same_words l (map said (take (64 - p) run))) (said_from run p) ∙ ap (same_words (drop p (map said run))) (said_to run (64 - p))

-- the least period is here, or later
pub period_next : (p : ℕ) (run : List WordSaid) → p < 9 → has_period p run ≡ false → period_from (9 - p) p run ≡ period_from (9 - (p + 1)) (p + 1) run
period_next p run low not_here =
    let e : 9 - p ≡ suc (9 - (p + 1)) = omega (arith, low) in
    let f : suc p ≡ p + 1 = omega arith in
    ap (λ (n : ℕ). period_from n p run) e ∙ ap (λ (t : Bool). cond t (Some p) (period_from (9 - (p + 1)) (suc p) run)) not_here ∙ ap (λ (n : ℕ). period_from (9 - (p + 1)) n run) f

pub period_here : (p : ℕ) (run : List WordSaid) → p < 9 → has_period p run ≡ true → Some p ≡ period_from (9 - p) p run
period_here p run low is_here =
    let e : 9 - p ≡ suc (9 - (p + 1)) = omega (arith, low) in
    sym (ap (λ (n : ℕ). period_from n p run) e ∙ ap (λ (t : Bool). cond t (Some p) (period_from (9 - (p + 1)) (suc p) run)) is_here)

pub period_none : (p : ℕ) (run : List WordSaid) → 9 ≤ p → None ≡ period_from (9 - p) p run
period_none p run all = let e : 9 - p ≡ 0 = omega (arith, all) in sym (ap (λ (n : ℕ). period_from n p run) e)

-- the cycle begins here, or later
among_next : (n : ℕ) (l : List WordSaid) (w : WordSaid) (rest : List WordSaid) → l ≡ w ∷ rest → cycle_at l ≡ None → cycle_among (suc n) l ≡ cycle_among n rest
among_next n l w rest is none =
    ap (cycle_among (suc n)) is ∙ ap (λ (o : Option (List WordSaid)). or_else o (cycle_among n rest)) (ap cycle_at (sym is) ∙ none)

pub cycle_next : (ws : List WordSaid) (d : WordSaid) (s : ℕ) → s < length ws → s < 16 → cycle_at (drop s ws) ≡ None → cycle_among (16 - s) (drop s ws) ≡ cycle_among (16 - (s + 1)) (drop (s + 1) ws)
cycle_next ws d s below low none =
    let e : 16 - s ≡ suc (16 - (s + 1)) = omega (arith, low) in
    let f : suc s ≡ s + 1 = omega arith in
    ap (λ (n : ℕ). cycle_among n (drop s ws)) e ∙ among_next (16 - (s + 1)) (drop s ws) (get_or ws s d) (drop (suc s) ws) (drop-cons ws s d below) none
    ∙ ap (λ (n : ℕ). cycle_among (16 - (s + 1)) (drop n ws)) f

among_here : (n : ℕ) (l cycle : List WordSaid) → cycle_at l ≡ Some cycle → 0 < length l → cycle_among (suc n) l ≡ Some cycle
among_here n [] cycle is some = absurd (omega (arith, some))
among_here n (w ∷ rest) cycle is some = ap (λ (o : Option (List WordSaid)). or_else o (cycle_among n rest)) is

pub period_known : (words : List Word) (r : Option ℕ) → 64 ≤ length words → r ≡ period_from 8 1 (map said (take 64 words)) → r ≡ period_at (map said words)
period_known words r long is =
    let e = length-map words said in
    is ∙ ap (period_from 8 1) (said_to words 64)
    ∙ sym (ap (λ (t : Bool). cond t None (period_from 8 1 (take 64 (map said words)))) (le-ltb (length (map said words)) 64 (omega (arith, e, long))))

module _ (words : List Word) (s : ℕ) (so_far : cycle_among 16 (map said words) ≡ cycle_among (16 - s) (drop s (map said words))) where
  cycle_of : (o : Option ℕ) → o ≡ period_at (map said (take (length words - s) (drop s words))) → cycle_at (drop s (map said words)) ≡ option_map (λ (p : ℕ). take p (drop s (map said words))) o
  cycle_of o is = sym (ap (option_map (λ (p : ℕ). take p (drop s (map said words)))) (is ∙ ap period_at (said_from words s)))

  pub cycle_found : (p k : ℕ) → s < length words → s < 16 → k ≡ p → Some p ≡ period_at (map said (take (length words - s) (drop s words)))
      → Some (map said (take k (drop s words))) ≡ cycle_among 16 (map said words)
  cycle_found p k below low same is =
      let e : 16 - s ≡ suc (15 - s) = omega (arith, low) in
      let l = length-map words said in
      let d = length-drop s (map said words) in
      ap Some (said_within words s k p same)
      ∙ sym (so_far ∙ ap (λ (n : ℕ). cycle_among n (drop s (map said words))) e ∙ among_here (15 - s) (drop s (map said words)) (take p (drop s (map said words))) (cycle_of (Some p) is) (omega (arith, l, d, below)))

  pub cycle_later : s < length words → s < 16 → None ≡ period_at (map said (take (length words - s) (drop s words)))
      → cycle_among 16 (map said words) ≡ cycle_among (16 - (s + 1)) (drop (s + 1) (map said words))
  cycle_later below low is =
      let l = length-map words said in
      so_far ∙ cycle_next (map said words) (record { text = []; is_mark = false }) s (omega (arith, l, below)) low (cycle_of None is)

  none_left : (n : ℕ) → cycle_among n [] ≡ None
  none_left zero = refl
  none_left (suc n) = refl

  pub cycle_never : (end : ℕ) → end ≡ min (length words) 16 → end ≤ s → None ≡ cycle_among 16 (map said words)
  cycle_never end is all = sym (so_far ∙ by (nat_le 16 s) refl)
    where
      by : (t : Bool) → nat_le 16 s ≡ t → cycle_among (16 - s) (drop s (map said words)) ≡ None
      by true far = let l = leb-true 16 s far in let e : 16 - s ≡ 0 = omega (arith, l) in ap (λ (n : ℕ). cycle_among n (drop s (map said words))) e
      by false near =
          let l = leb-false 16 s near in
          let m = length-map words said in
          ap (cycle_among (16 - s)) (drop_all s (map said words) (omega (arith, l, m, is, all))) ∙ none_left (16 - s)

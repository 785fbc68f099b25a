-- Writing a number's hexadecimal digits from the last to the first.
use Rattle.std.proofs.Common.{◌≡◌, ℕ, ◌+◌, ◌-◌, ◌*◌, ◌/◌, ◌%◌, ◌^◌, ◌<◌, ◌≤◌, suc, List, [], ◌∷◌, ◌++◌, length, drop, set, map, sym, ap, ◌∙◌, append_assoc, arith, pow-suc, zero, lit≤}
use Rattle.std.proofs.lemmas.Int.Digits.{digits_of_step}
use Rattle.std.proofs.lemmas.List.{drop-set, map-append, drop_all, append-nil}
use Rattle.std.specs.Char.{digit_char}
use Rattle.std.specs.Int.Digits.{digits_of}

-- one digit more is written
pub written_more : (rest at : ℕ) (digits all : List ℕ) (d : ℕ) → 0 < rest → 0 < at → at ≤ length digits → d ≡ digit_char (rest % 16)
    → map digit_char (digits_of 16 rest) ++ drop at digits ≡ all
    → map digit_char (digits_of 16 (rest / 16)) ++ drop (at - 1) (set digits (at - 1) d) ≡ all
written_more rest at digits all d some room within is so_far =
    let place : at - 1 < length digits = omega arith in
    let next : at - 1 + 1 ≡ at = omega arith in
    let front : List ℕ = map digit_char (digits_of 16 (rest / 16)) in
    ap (λ back. front ++ back) (drop-set digits (at - 1) d place ∙ ap (λ n. d ∷ drop n digits) next)
    ∙ ap (λ c. front ++ (c ∷ drop at digits)) is
    ∙ sym (append_assoc front (digit_char (rest % 16) ∷ []) (drop at digits))
    ∙ sym (ap (λ ds. ds ++ drop at digits) (ap (map digit_char) (digits_of_step 16 rest (lit≤ tt) some) ∙ map-append digit_char (digits_of 16 (rest / 16)) (rest % 16 ∷ [])))
    ∙ so_far

-- where nothing is left, all digits are written
pub written_all : (rest at : ℕ) (digits all : List ℕ) → rest ≡ 0 → map digit_char (digits_of 16 rest) ++ drop at digits ≡ all → drop at digits ≡ all
written_all rest at digits all none so_far = sym (ap (λ n. map digit_char (digits_of 16 n) ++ drop at digits) none) ∙ so_far

-- a place less, a digit less
pub fits_less : (rest at : ℕ) → 0 < at → rest < 16 ^ at → rest / 16 < 16 ^ (at - 1)
fits_less rest zero some fits = absurd (omega arith)
fits_less rest (suc at) some fits =
    let e : suc at - 1 ≡ at = omega arith in
    let f : 16 ^ suc at ≡ 16 ^ at * 16 = pow-suc 16 at in
    rw e (omega (arith, f))

pub none_left : (rest at : ℕ) → rest < 16 ^ at → at ≡ 0 → rest ≡ 0
none_left rest at fits zeroed = omega (arith, ap (λ n. 16 ^ n) zeroed)

-- before the first digit none is written
pub none_written : (xs digits : List ℕ) (n : ℕ) → length digits ≤ n → xs ++ drop n digits ≡ xs
none_written xs digits n past = ap (λ back. xs ++ back) (drop_all n digits past) ∙ append-nil xs

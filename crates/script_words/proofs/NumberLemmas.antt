-- Reading a numeral digit by digit gives the numeral.
use Rattle.std.proofs.Common.{◌≡◌, ℕ, ◌+◌, ◌*◌, ◌^◌, ◌<◌, ◌≤◌, Bool, true, false, ◌&&◌, cond, nat_lt, List, [], ◌∷◌, length, get_or, drop, suc, drop-cons, Option, None, Some, if◌then◌else◌, refl, sym, ap, ◌∙◌, arith, ⊎_elim, lit<}
use Rattle.std.proofs.lemmas.List.{drop_all}
use Rattle.std.proofs.Math.Nat.{mul-le-mul_left}
use Rattle.std.proofs.lemmas.Bool.{cases_Bool, cases_lt, lt-ltb, le-ltb}
use Rattle.std.specs.Char.{digit_value, is_digit}
use Rattle.std.specs.Str.Parse.{digits_value_after}
use Rattle.script_words.specs.Number.{are_digits, numeral_of}
use Rattle.script_words.specs.Digits.{next_value}

-- the number, and whether it goes on
abbrev pub and_then_after : (ℕ → Option ℕ) → Option ℕ → Option ℕ
and_then_after next None = None
and_then_after next (Some n) = next n

-- the number of digits after those of n, read one by one
abbrev pub number_after : ℕ → ℕ → List ℕ → Option ℕ
number_after base n [] = Some n
number_after base n (c ∷ cs) = and_then_after (λ m. number_after base m cs) (next_value base n c)

-- more digits make no number smaller
value_ge : (base n : ℕ) (ds : List ℕ) → 1 ≤ base → n ≤ digits_value_after base n ds
value_ge base n [] least = omega arith
value_ge base n (c ∷ cs) least =
    let more = value_ge base (n * base + digit_value c) cs least in
    let grows : n * 1 ≤ n * base = mul-le-mul_left n least in
    omega (arith, more, grows)

and_false : (b : Bool) → (b && false) ≡ false
and_false true = refl
and_false false = refl

-- the test that `numeral_of` makes, at digits after those of n
abbrev pub numeral_after : ℕ → ℕ → List ℕ → Option ℕ
numeral_after base n ds = if are_digits base ds && nat_lt (digits_value_after base n ds) (2 ^ 64) then Some (digits_value_after base n ds) else None

-- a choice under two tests
both : {X : Type 0} (d l : Bool) (x y : X) → d ≡ true → l ≡ true → cond (d && l) x y ≡ x
both d l x y digit lt = ap (λ b. cond (b && l) x y) digit ∙ ap (λ b. cond b x y) lt

second_fails : {X : Type 0} (d l : Bool) (x y : X) → l ≡ false → cond (d && l) x y ≡ y
second_fails d l x y ge = ap (λ b. cond (d && b) x y) ge ∙ ap (λ b. cond b x y) (and_false d)

first_fails : {X : Type 0} (d l : Bool) (x y : X) → d ≡ false → cond (d && l) x y ≡ y
first_fails d l x y none = ap (λ b. cond (b && l) x y) none

pub number_after-is : (base n : ℕ) (ds : List ℕ) → 1 ≤ base → n < 2 ^ 64 → number_after base n ds ≡ numeral_after base n ds
number_after-is base n [] least small = sym (both true (nat_lt n (2 ^ 64)) (Some n) None refl (lt-ltb n (2 ^ 64) small))
number_after-is base n (c ∷ cs) least small =
    let m : ℕ = n * base + digit_value c in
    let next : Option ℕ → Option ℕ = and_then_after (λ k. number_after base k cs) in
    let d : Bool = is_digit c base in
    let v : ℕ = digits_value_after base m cs in
    ⊎_elim
    (λ digit. ⊎_elim
    (λ lt. ap next (both d (nat_lt m (2 ^ 64)) (Some m) None digit (lt-ltb m (2 ^ 64) lt))
    ∙ number_after-is base m cs least lt
    ∙ sym (ap (λ b. cond ((b && are_digits base cs) && nat_lt v (2 ^ 64)) (Some v) None) digit))
    (λ ge. ap next (second_fails d (nat_lt m (2 ^ 64)) (Some m) None (le-ltb m (2 ^ 64) ge))
    ∙ sym (second_fails (d && are_digits base cs) (nat_lt v (2 ^ 64)) (Some v) None (le-ltb v (2 ^ 64) (omega (arith, value_ge base m cs least)))))
    (cases_lt m (2 ^ 64)))
    (λ none. ap next (first_fails d (nat_lt m (2 ^ 64)) (Some m) None none)
    ∙ sym (ap (λ b. cond ((b && are_digits base cs) && nat_lt v (2 ^ 64)) (Some v) None) none))
    (cases_Bool d)

-- a numeral of one digit or more
pub numeral_of-is : (base : ℕ) (ds : List ℕ) → 1 ≤ base → 0 < length ds → number_after base 0 ds ≡ numeral_of base ds
numeral_of-is base [] least some = absurd (omega arith)
numeral_of-is base (c ∷ cs) least some = number_after-is base 0 (c ∷ cs) least (lit< tt)

-- where the next byte is no digit that fits, the whole is no number
pub number_after-stops : (base value n : ℕ) (digits : List ℕ) (i : ℕ) → i < length digits → number_after base value (drop i digits) ≡ number_after base n digits
    → next_value base value (get_or digits i 0) ≡ None → number_after base n digits ≡ None
number_after-stops base value n digits i lt so_far fails =
    sym so_far ∙ ap (number_after base value) (drop-cons digits i 0 lt) ∙ ap (and_then_after (λ m. number_after base m (drop (suc i) digits))) fails

-- at the end the number so far is the number
pub number_after-ends : (base value n : ℕ) (digits : List ℕ) (i : ℕ) → length digits ≤ i → number_after base value (drop i digits) ≡ number_after base n digits
    → Some value ≡ number_after base n digits
number_after-ends base value n digits i past so_far = sym (ap (number_after base value) (drop_all i digits past)) ∙ so_far

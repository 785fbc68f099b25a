-- A number is a component.
use Rattle.std.proofs.Common.{◌≡◌, ℕ, ◌+◌, ◌<◌, ◌≤◌, ◌^◌, ◌/◌, ◌%◌, ◌==◌, Bool, true, false, not, ◌&&◌, ◌||◌, List, [], ◌∷◌, ◌++◌, codes, decimal, length, refl, sym, ap, ◌∙◌, arith}
use Rattle.std.proofs.lemmas.Bool.{and_from, and_left, le-leb, lt-ltb, ne_eqb, not_from_false}
use Rattle.std.proofs.lemmas.Fmt.{decimal_by_steps, decimal_nonempty, length-decimal-le}
use Rattle.std.proofs.lemmas.List.Folds.{list_all-append}
use Rattle.std.specs.Char.{is_ascii_alphanumeric}
use Rattle.std.specs.Int.{is_in_range}
use Rattle.std.specs.List.{list_all, list_any}
use Rattle.std.specs.Prelude.{nat_le, nat_lt}
use Rattle.std.specs.Str.{bytes_eq}
use Rattle.case_unpacking.specs.Names.{is_component, is_plain_byte, marks}

plain_digit : (d : ℕ) → d < 10 → is_plain_byte (48 + d) ≡ true
plain_digit d low =
    ap (λ (t : Bool). ((t || is_in_range 65 90 (48 + d)) || is_in_range 97 122 (48 + d)) || list_any (λ mark. mark == 48 + d) marks)
    (and_from (nat_le 48 (48 + d)) (nat_le (48 + d) 57) (le-leb 48 (48 + d) (omega arith)) (le-leb (48 + d) 57 (omega (arith, low))))

-- it begins with a digit, and has plain bytes
pub record IsPlainNumber (ds : List ℕ) : Type 0 where
  digit : ℕ
  rest : List ℕ
  begins : ds ≡ (48 + digit) ∷ rest
  low : digit < 10
  plain : list_all is_plain_byte ds ≡ true

one_digit : (n : ℕ) → n < 10 → IsPlainNumber ((48 + n) ∷ [])
one_digit n low = record { digit = n; rest = []; begins = refl; low = low; plain = and_from (is_plain_byte (48 + n)) true (plain_digit n low) refl }

more_digits : (n : ℕ) (ds : List ℕ) → 10 ≤ n → IsPlainNumber ds → IsPlainNumber (ds ++ ((48 + n % 10) ∷ []))
more_digits n ds high is = record {
  digit = is.digit;
  rest = is.rest ++ ((48 + n % 10) ∷ []);
  begins = ap (λ (l : List ℕ). l ++ ((48 + n % 10) ∷ [])) is.begins;
  low = is.low;
  plain = list_all-append is_plain_byte ds ((48 + n % 10) ∷ [])
      ∙ and_from (list_all is_plain_byte ds) (is_plain_byte (48 + n % 10) && true) is.plain (and_from (is_plain_byte (48 + n % 10)) true (plain_digit (n % 10) (omega arith)) refl);
}

is_plain_number : (n : ℕ) → n < 2 ^ 64 → IsPlainNumber (decimal n)
is_plain_number n = decimal_by_steps (λ _ ds. IsPlainNumber ds) one_digit more_digits n

no_dot : (ds dots : List ℕ) → IsPlainNumber ds → not (bytes_eq ds (46 ∷ dots)) ≡ true
no_dot ds dots is =
    not_from_false (bytes_eq ds (46 ∷ dots)) (
    ap (λ (l : List ℕ). bytes_eq l (46 ∷ dots)) is.begins
    ∙ and_left (48 + is.digit == 46) (bytes_eq is.rest dots) (ne_eqb (48 + is.digit) 46 (λ e. omega (arith, e))))

pub number_is_component : (n : ℕ) → n < 2 ^ 32 → is_component (decimal n) ≡ true
number_is_component n low =
    let ds = decimal n in
    let is = is_plain_number n (omega (arith, low)) in
    let short = length-decimal-le 10 n (omega arith) (omega (arith, low)) (omega (arith, low)) in
    and_from (nat_lt 0 (length ds) && nat_le (length ds) 255 && not (bytes_eq ds (codes ".")) && not (bytes_eq ds (codes ".."))) (list_all is_plain_byte ds)
    (and_from (nat_lt 0 (length ds) && nat_le (length ds) 255 && not (bytes_eq ds (codes "."))) (not (bytes_eq ds (codes "..")))
    (and_from (nat_lt 0 (length ds) && nat_le (length ds) 255) (not (bytes_eq ds (codes ".")))
    (and_from (nat_lt 0 (length ds)) (nat_le (length ds) 255) (lt-ltb 0 (length ds) (decimal_nonempty n (omega (arith, low)))) (le-leb (length ds) 255 (omega (arith, short))))
    (no_dot ds [] is))
    (no_dot ds (46 ∷ []) is))
    is.plain

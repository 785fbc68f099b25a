-- How escaped texts are read, and that they are tame.
use Rattle.std.proofs.Common.{◌≡◌, inl, inr, ◌⊎◌, ⊎_elim, ℕ, ◌+◌, ◌/◌, ◌%◌, ◌<◌, ◌≤◌, ◌==◌, nat_le, nat_lt, Bool, true, false, not, ◌&&◌, cond, List, [], ◌∷◌, ◌++◌, codes, refl, sym, ap, subst, ◌∙◌, arith}
use Rattle.std.proofs.lemmas.Bool.{and_from, and_parts, cases_Bool, eqb-true, le-leb, leb-true, ltb-true, ltb-false, ne_eqb}
use Rattle.std.proofs.lemmas.List.Folds.{list_all-append}
use Rattle.std.specs.Char.{digit_char}
use Rattle.std.specs.List.{AllByRecursion, list_all}
use Rattle.script_words.specs.Printing.{prints_itself, shown_byte}
use Rattle.script_words.specs.Printing.{escape as escaped_byte}
use Rattle.case_pages.specs.Escaping.{escape, escape_byte, is_tame, plain, plain_byte}
use Rattle.case_pages.specs.Html.{Token, char, chars, in_text, is_char, read, step}
use Rattle.case_pages.proofs.ReadingLemmas.{is_value_byte, reads_then}

-- a digit is of `0` to `9` or of `a` on
digit_range : (d : ℕ) → ((48 ≤ digit_char d) × (digit_char d ≤ 57)) ⊎ (97 ≤ digit_char d)
digit_range d = by (nat_lt d 10) refl
  where
    by : (t : Bool) → nat_lt d 10 ≡ t → ((48 ≤ cond t (48 + d) (87 + d)) × (cond t (48 + d) (87 + d) ≤ 57)) ⊎ (97 ≤ cond t (48 + d) (87 + d))
    by true e = let low = ltb-true d 10 e in inl (omega arith, omega (arith, low))
    by false e = let high = ltb-false d 10 e in inr (omega (arith, high))

digit_ne : (d k : ℕ) → (k < 48) ⊎ ((57 < k) × (k < 97)) → digit_char d == k ≡ false
digit_ne d k apart = ne_eqb (digit_char d) k (λ same. by same (digit_range d) apart)
  where
    by : digit_char d ≡ k → ((48 ≤ digit_char d) × (digit_char d ≤ 57)) ⊎ (97 ≤ digit_char d) → (k < 48) ⊎ ((57 < k) × (k < 97)) → ⊥
    by same (inl r) (inl low) = omega (arith, same, r.0, r.1, low)
    by same (inl r) (inr high) = omega (arith, same, r.0, r.1, high.0, high.1)
    by same (inr r) (inl low) = omega (arith, same, r, low)
    by same (inr r) (inr high) = omega (arith, same, r, high.0, high.1)

low_ne : (d k : ℕ) → k < 48 → digit_char d == k ≡ false
low_ne d k low = digit_ne d k (inl low)

between_ne : (d k : ℕ) → 57 < k → k < 97 → digit_char d == k ≡ false
between_ne d k low high = digit_ne d k (inr (low, high))

digit_step : (d : ℕ) → step in_text (digit_char d) ≡ is_char (digit_char d)
digit_step d = rw (between_ne d 60 (omega arith) (omega arith), low_ne d 38 (omega arith)) refl

-- a byte that is shown as `\xHH`
hex_read : (c : ℕ) → read in_text (escaped_byte c) ≡ (in_text, chars (escaped_byte c))
hex_read c = rw (digit_step (c / 16), digit_step (c % 16)) refl

-- a byte that is shown as it is
byte_read : (c : ℕ) → c == 60 ≡ false → c == 38 ≡ false → read in_text (c ∷ []) ≡ (in_text, chars (c ∷ []))
byte_read c less and = rw (less, and) refl

shown_read : (c : ℕ) → c == 60 ≡ false → c == 38 ≡ false → read in_text (shown_byte c) ≡ (in_text, chars (shown_byte c))
shown_read c less and = by (prints_itself c)
  where
    by : (t : Bool) → read in_text (cond t (c ∷ []) (escaped_byte c)) ≡ (in_text, chars (cond t (c ∷ []) (escaped_byte c)))
    by true = byte_read c less and
    by false = hex_read c

plain_read : (c : ℕ) → c == 60 ≡ false → c == 38 ≡ false → read in_text (plain_byte c) ≡ (in_text, chars (plain_byte c))
plain_read c less and = by (c == 32)
  where
    by : (t : Bool) → read in_text (cond t (32 ∷ []) (shown_byte c)) ≡ (in_text, chars (cond t (32 ∷ []) (shown_byte c)))
    by true = refl
    by false = shown_read c less and

-- the byte that is one of the five, or none of them
module _ (P : ℕ → List ℕ → Type 0) where
  by_byte : (c : ℕ) → P 38 (codes "&amp;") → P 60 (codes "&lt;") → P 62 (codes "&gt;") → P 34 (codes "&quot;") → P 39 (codes "&#39;")
      → (c == 38 ≡ false → c == 60 ≡ false → c == 62 ≡ false → c == 34 ≡ false → c == 39 ≡ false → P c (plain_byte c)) → P c (escape_byte c)
  by_byte c and less greater quote single other =
      ⊎_elim (λ e. subst (λ k. P k (escape_byte k)) (sym (eqb-true c 38 e)) and) (λ e0.
      ⊎_elim (λ e. subst (λ k. P k (escape_byte k)) (sym (eqb-true c 60 e)) less) (λ e1.
      ⊎_elim (λ e. subst (λ k. P k (escape_byte k)) (sym (eqb-true c 62 e)) greater) (λ e2.
      ⊎_elim (λ e. subst (λ k. P k (escape_byte k)) (sym (eqb-true c 34 e)) quote) (λ e3.
      ⊎_elim (λ e. subst (λ k. P k (escape_byte k)) (sym (eqb-true c 39 e)) single) (λ e4.
      subst (P c) (sym (rest e0 e1 e2 e3 e4)) (other e0 e1 e2 e3 e4))
      (cases_Bool (c == 39))) (cases_Bool (c == 34))) (cases_Bool (c == 62))) (cases_Bool (c == 60))) (cases_Bool (c == 38))
    where
      rest : c == 38 ≡ false → c == 60 ≡ false → c == 62 ≡ false → c == 34 ≡ false → c == 39 ≡ false → escape_byte c ≡ plain_byte c
      rest e0 e1 e2 e3 e4 = rw (e0, e1, e2, e3, e4) refl

escape_byte_read : (c : ℕ) → read in_text (escape_byte c) ≡ (in_text, chars (plain_byte c))
escape_byte_read c = by_byte (λ k w. read in_text w ≡ (in_text, chars (plain_byte k))) c refl refl refl refl refl (λ e0 e1 e2 e3 e4. plain_read c e1 e0)

pub chars_behind : (a b : List ℕ) → chars (a ++ b) ≡ chars a ++ chars b
chars_behind [] b = refl
chars_behind (c ∷ cs) b = ap (λ (ts : List Token). char c ∷ ts) (chars_behind cs b)

-- what is read of an escaped text: the characters by which it is shown
pub escape_read : (text : List ℕ) → read in_text (escape text) ≡ (in_text, chars (plain text))
escape_read [] = refl
escape_read (c ∷ cs) =
    reads_then in_text in_text in_text (escape_byte c) (escape cs) (chars (plain_byte c)) (chars (plain cs)) (escape_byte_read c) (escape_read cs)
    ∙ ap (λ (ts : List Token). (in_text, ts)) (sym (chars_behind (plain_byte c) (plain cs)))

-- a byte that ends no value
value_digit : (d : ℕ) → is_value_byte (digit_char d) ≡ true
value_digit d = rw (low_ne d 34 (omega arith), between_ne d 62 (omega arith) (omega arith)) refl

value_hex : (c : ℕ) → list_all is_value_byte (escaped_byte c) ≡ true
value_hex c = rw (value_digit (c / 16), value_digit (c % 16)) refl

value_plain : (c : ℕ) → c == 34 ≡ false → c == 62 ≡ false → list_all is_value_byte (plain_byte c) ≡ true
value_plain c quote greater = by (c == 32) (prints_itself c)
  where
    by : (t u : Bool) → list_all is_value_byte (cond t (32 ∷ []) (cond u (c ∷ []) (escaped_byte c))) ≡ true
    by true u = refl
    by false true = rw (quote, greater) refl
    by false false = value_hex c

pub value_escape : (text : List ℕ) → list_all is_value_byte (escape text) ≡ true
value_escape [] = refl
value_escape (c ∷ cs) =
    list_all-append is_value_byte (escape_byte c) (escape cs)
    ∙ and_from (list_all is_value_byte (escape_byte c)) (list_all is_value_byte (escape cs))
    (by_byte (λ k w. list_all is_value_byte w ≡ true) c refl refl refl refl refl (λ e0 e1 e2 e3 e4. value_plain c e3 e2))
    (value_escape cs)

-- a byte that is tame
tame_from : (c : ℕ) → 32 ≤ c → c ≤ 126 → c == 60 ≡ false → c == 62 ≡ false → c == 34 ≡ false → c == 39 ≡ false → is_tame c ≡ true
tame_from c low high e1 e2 e3 e4 = rw (le-leb 32 c low, le-leb c 126 high, e1, e2, e3, e4) refl

tame_digit : (d : ℕ) → d < 16 → is_tame (digit_char d) ≡ true
tame_digit d low = tame_from (digit_char d) (least (digit_range d)) (most (nat_lt d 10) refl) (between_ne d 60 (omega arith) (omega arith)) (between_ne d 62 (omega arith) (omega arith)) (low_ne d 34 (omega arith)) (low_ne d 39 (omega arith))
  where
    least : ((48 ≤ digit_char d) × (digit_char d ≤ 57)) ⊎ (97 ≤ digit_char d) → 32 ≤ digit_char d
    least (inl r) = omega (arith, r.0)
    least (inr r) = omega (arith, r)

    most : (t : Bool) → nat_lt d 10 ≡ t → cond t (48 + d) (87 + d) ≤ 126
    most true e = let small = ltb-true d 10 e in omega (arith, small)
    most false e = omega (arith, low)

tame_hex : (c : ℕ) → c < 256 → list_all is_tame (escaped_byte c) ≡ true
tame_hex c byte = rw (tame_digit (c / 16) (omega arith), tame_digit (c % 16) (omega arith)) refl

prints_range : (c : ℕ) → prints_itself c ≡ true → (33 ≤ c) × (c ≤ 126)
prints_range c is =
    let outer = and_parts (nat_le 33 c && nat_le c 126) (not (c == 92)) is in
    let inner = and_parts (nat_le 33 c) (nat_le c 126) outer.0 in
    (leb-true 33 c inner.0, leb-true c 126 inner.1)

tame_plain : (c : ℕ) → c < 256 → c == 60 ≡ false → c == 62 ≡ false → c == 34 ≡ false → c == 39 ≡ false → list_all is_tame (plain_byte c) ≡ true
tame_plain c byte e1 e2 e3 e4 = by (c == 32) (prints_itself c) refl
  where
    by : (t u : Bool) → prints_itself c ≡ u → list_all is_tame (cond t (32 ∷ []) (cond u (c ∷ []) (escaped_byte c))) ≡ true
    by true u e = refl
    by false true e = let r = prints_range c e in and_from (is_tame c) true (tame_from c (omega (arith, r.0)) r.1 e1 e2 e3 e4) refl
    by false false e = tame_hex c byte

pub tame_escape : (text : List ℕ) → AllByRecursion (λ c. c < 256) text → list_all is_tame (escape text) ≡ true
tame_escape [] bytes = refl
tame_escape (c ∷ cs) bytes =
    list_all-append is_tame (escape_byte c) (escape cs)
    ∙ and_from (list_all is_tame (escape_byte c)) (list_all is_tame (escape cs))
    (by_byte (λ k w. list_all is_tame w ≡ true) c refl refl refl refl refl (λ e0 e1 e2 e3 e4. tame_plain c bytes.0 e1 e2 e3 e4))
    (tame_escape cs bytes.1)

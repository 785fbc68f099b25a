-- A text in which an escape stands in place of a character that is no byte of JSON's grammar is read as the same.
use Rattle.std.proofs.Common.{◌≡◌, ℕ, zero, suc, ◌+◌, ◌-◌, ◌*◌, ◌/◌, ◌%◌, ◌<◌, ◌≤◌, Bool, true, false, cond, ◌&&◌, ◌||◌, ◌==◌, nat_lt, List, [], ◌∷◌, ◌++◌, length, take, drop, get_or, if◌then◌else◌, Option, Some, None, is_some, option_map, option_and_then, inl, inr, ◌⊎◌, refl, sym, ap, ap₂, subst, ◌∙◌, arith, length-append, append_assoc}
use Rattle.std.specs.Prelude.{⊤, nat_eq}
use Rattle.std.specs.Char.{digit_char, digit_value, encode_utf8, is_ascii_digit, is_digit, IsScalar}
use Rattle.std.specs.List.{prefix_len, starts_with, flat_map}
use Rattle.std.specs.Str.{IsUtf8, chars}
use Rattle.std.proofs.lemmas.Bool.{true≢false, false≢true, ne_eqb, lt-ltb, le-ltb, and_parts, agree_below_at, cases_lt}
use Rattle.std.proofs.lemmas.Bool.Decides.{nat_tests}
use Rattle.std.proofs.lemmas.List.{take-append-le, drop-append-le}
use Rattle.std.proofs.lemmas.List.Sums.{prefix_len-le-length}
use Rattle.std.proofs.lemmas.Str.{digit_value-digit_char, encodes-chars, scalars-chars}
use Rattle.std.proofs.Math.Utf8.{scalar, scalars, encodes}
use Rattle.json.specs.Align.{is_good}
use Rattle.json.specs.Ascii as ascii
use Rattle.json.specs.Json as json
use Rattle.json.specs.Lex.{Lexeme, token, comma, colon, Class, quote, backslash, operator, space, other, class, operator_lexeme, string_token, Mode, between, in_word, in_string, in_escape, lex_byte, lex, Place, fresh, after_value, after_comma, after_key, begins_colon, may_begin, may_close, if_allowed, place_token, punctuate, tokens}
use Rattle.json.specs.Text.{content, Within, plain, after_backslash, after_u, after_high, prepend, code_unit, short_escape, is_high_surrogate, is_low_surrogate, surrogate_pair}
use Rattle.json.specs.Token.{Token, begin_object, end_object, begin_array, end_array, key, string, number, boolean, null, bad}
use Rattle.json.specs.Tree.{json_tokens, items_tokens, members_tokens}
use Rattle.json.specs.Word.{is_operator, is_space, ends_word, after_digits, after_minus, after_sign, after_whole, after_fraction, after_exponent, after_number, number_before, literal, word}
use Rattle.json.proofs.Unique.Spelling.{value-json_tokens_back}
use Rattle.serde_json.specs.Data.{Data}
use Rattle.serde_json.specs.Read.{of_json, max_depth, read}
use Rattle.case_tables.specs.Hidden.{is_hidden, code_escape, printed_char, printed_json}
use Rattle.case_tables.proofs.HiddenLemmas.{hidden_below}

-- ---- a text that is read has no bad token

abbrev GoodTokens : List Token → Type 0
GoodTokens [] = ⊤
GoodTokens (t ∷ ts) = (is_good t ≡ true) × GoodTokens ts

abbrev Good : List Lexeme → Type 0
Good [] = ⊤
Good (token t ∷ ls) = (is_good t ≡ true) × Good ls
Good (comma ∷ ls) = Good ls
Good (colon ∷ ls) = Good ls

mutual
  good_value : (j : json.Json) (ts : List Token) → GoodTokens ts → GoodTokens (json_tokens j ++ ts)
  good_value json.null ts h = (refl, h)
  good_value (json.boolean b) ts h = (refl, h)
  good_value (json.number s) ts h = (refl, h)
  good_value (json.string s) ts h = (refl, h)
  good_value (json.array js) ts h = (refl, good_items js ts h)
  good_value (json.object ms) ts h = (refl, good_members ms ts h)

  good_items : (js : json.Items) (ts : List Token) → GoodTokens ts → GoodTokens (items_tokens js ++ ts)
  good_items json.no_items ts h = (refl, h)
  good_items (json.item j js) ts h = subst GoodTokens (sym (append_assoc (json_tokens j) (items_tokens js) ts)) (good_value j (items_tokens js ++ ts) (good_items js ts h))

  good_members : (ms : json.Members) (ts : List Token) → GoodTokens ts → GoodTokens (members_tokens ms ++ ts)
  good_members json.no_members ts h = (refl, h)
  good_members (json.member k j ms) ts h = (refl, subst GoodTokens (sym (append_assoc (json_tokens j) (members_tokens ms) ts)) (good_value j (members_tokens ms ++ ts) (good_members ms ts h)))

allowed : (b : Bool) (t : Token) (k : Place → List Token) (next : Place) → GoodTokens (if_allowed b t k next) → GoodTokens (k next)
allowed true t k next g = g.1
allowed false t k next g = absurd (false≢true g.0)

placed : (p : Place) (t : Token) (b : Bool) (k : Place → List Token) (ls : List Lexeme) → ((n : Place) → GoodTokens (k n) → Good ls) → GoodTokens (place_token p t b k) → (is_good t ≡ true) × Good ls
placed p begin_object b k ls h g = (refl, h fresh (allowed (may_begin p) begin_object k fresh g))
placed p end_object b k ls h g = (refl, h after_value (allowed (may_close p) end_object k after_value g))
placed p begin_array b k ls h g = (refl, h fresh (allowed (may_begin p) begin_array k fresh g))
placed p end_array b k ls h g = (refl, h after_value (allowed (may_close p) end_array k after_value g))
placed p (key s) b k ls h g = absurd (false≢true g.0)
placed p (string s) true k ls h g = (refl, h after_key (allowed (may_begin p) (key s) k after_key g))
placed p (string s) false k ls h g = (refl, h after_value (allowed (may_begin p) (string s) k after_value g))
placed p (number s) b k ls h g = (refl, h after_value (allowed (may_begin p) (number s) k after_value g))
placed p (boolean c) b k ls h g = (refl, h after_value (allowed (may_begin p) (boolean c) k after_value g))
placed p null b k ls h g = (refl, h after_value (allowed (may_begin p) null k after_value g))
placed p bad b k ls h g = absurd (false≢true g.0)

punctuated : (p : Place) (ls : List Lexeme) → GoodTokens (punctuate p ls) → Good ls
unfolding punctuate
punctuated fresh [] g = tt
punctuated after_value [] g = tt
punctuated after_comma [] g = tt
punctuated after_key [] g = tt
punctuated fresh (token t ∷ ls) g = placed fresh t (begins_colon ls) (λ n. punctuate n ls) ls (λ n. punctuated n ls) g
punctuated after_value (token t ∷ ls) g = placed after_value t (begins_colon ls) (λ n. punctuate n ls) ls (λ n. punctuated n ls) g
punctuated after_comma (token t ∷ ls) g = placed after_comma t (begins_colon ls) (λ n. punctuate n ls) ls (λ n. punctuated n ls) g
punctuated after_key (token t ∷ ls) g = placed after_key t (begins_colon ls) (λ n. punctuate n ls) ls (λ n. punctuated n ls) g
punctuated fresh (comma ∷ ls) g = absurd (false≢true g.0)
punctuated after_value (comma ∷ ls) g = punctuated after_comma ls g
punctuated after_comma (comma ∷ ls) g = absurd (false≢true g.0)
punctuated after_key (comma ∷ ls) g = absurd (false≢true g.0)
punctuated fresh (colon ∷ ls) g = absurd (false≢true g.0)
punctuated after_value (colon ∷ ls) g = absurd (false≢true g.0)
punctuated after_comma (colon ∷ ls) g = absurd (false≢true g.0)
punctuated after_key (colon ∷ ls) g = punctuated fresh ls g

none_is_some : {A P : Type 0} (a : A) → None ≡ Some a → P
none_is_some a e = absurd (false≢true (ap is_some e))

whole_value : (o : Option (json.Json × List Token)) (d : Data) → option_and_then of_json (option_and_then (λ p. json.if_last p.0 p.1) o) ≡ Some d → (j : json.Json) × (o ≡ Some (j, []))
whole_value None d e = none_is_some d e
whole_value (Some (j, [])) d e = (j, refl)
whole_value (Some (j, t ∷ ts)) d e = none_is_some d e

good_text : (text : List ℕ) (d : Data) → read text ≡ Some d → Good (lex between text)
good_text text d e =
    let v = whole_value (json.value max_depth (tokens text)) d e in
    punctuated fresh (lex between text) (subst GoodTokens (sym (value-json_tokens_back max_depth (tokens text) [] v.0 v.1)) (good_value v.0 [] tt))

-- ---- a part of a number before a byte z that is in none

record IsOutside (z : ℕ) : Type 0 where
  minus : (z == 45) ≡ false
  plus : (z == 43) ≡ false
  nil : (z == 48) ≡ false
  dot : (z == 46) ≡ false
  lower : (z == 101) ≡ false
  upper : (z == 69) ≡ false
  digit : is_ascii_digit z ≡ false

chosen : (t : Bool) (f : List ℕ → List ℕ) (o p : Option (List ℕ)) → cond t (option_map f o) (option_map f p) ≡ option_map f (cond t o p)
chosen true f o p = refl
chosen false f o p = refl

bound : (f : List ℕ → Option (List ℕ)) (add : List ℕ → List ℕ) → ((u : List ℕ) → f (add u) ≡ option_map add (f u)) → (o p : Option (List ℕ)) → p ≡ option_map add o → option_and_then f p ≡ option_map add (option_and_then f o)
bound f add g o p e = ap (option_and_then f) e ∙ at o
  where
    at : (o : Option (List ℕ)) → option_and_then f (option_map add o) ≡ option_map add (option_and_then f o)
    at None = refl
    at (Some r) = g r

module _ (z : ℕ) (zs : List ℕ) (outside : IsOutside z) where
  abbrev add : List ℕ → List ℕ
  add r = r ++ z ∷ zs

  first_dropped : (t : Bool) (x : ℕ) (xs : List ℕ) → cond t (add xs) (x ∷ add xs) ≡ add (cond t xs (x ∷ xs))
  first_dropped true x xs = refl
  first_dropped false x xs = refl

  minus_before : (u : List ℕ) → after_minus (add u) ≡ add (after_minus u)
  minus_before [] = ap (λ t. cond t zs (z ∷ zs)) outside.minus
  minus_before (x ∷ xs) = first_dropped (x == 45) x xs

  sign_before : (u : List ℕ) → after_sign (add u) ≡ add (after_sign u)
  sign_before [] = ap₂ (λ s t. cond (s || t) zs (z ∷ zs)) outside.minus outside.plus
  sign_before (x ∷ xs) = first_dropped ((x == 45) || (x == 43)) x xs

  count_before : (u : List ℕ) → prefix_len is_ascii_digit (add u) ≡ prefix_len is_ascii_digit u
  count_before [] = ap (λ t. cond t (1 + prefix_len is_ascii_digit zs) 0) outside.digit
  count_before (x ∷ xs) = ap (λ n. cond (is_ascii_digit x) (1 + n) 0) (count_before xs)

  digits_before : (u : List ℕ) → after_digits (add u) ≡ option_map add (after_digits u)
  digits_before u =
      let n = prefix_len is_ascii_digit u in
      ap (λ k. cond (k == 0) None (Some (drop k (add u)))) (count_before u)
      ∙ ap (λ l. cond (n == 0) None (Some l)) (drop-append-le n u (z ∷ zs) (prefix_len-le-length is_ascii_digit u))
      ∙ chosen (n == 0) add None (Some (drop n u))

  whole_before : (u : List ℕ) → after_whole (add u) ≡ option_map add (after_whole u)
  whole_before [] = ap (λ t. cond t (Some zs) (after_digits (z ∷ zs))) outside.nil ∙ digits_before []
  whole_before (x ∷ xs) = ap (λ o. cond (x == 48) (Some (add xs)) o) (digits_before (x ∷ xs)) ∙ chosen (x == 48) add (Some xs) (after_digits (x ∷ xs))

  fraction_before : (u : List ℕ) → after_fraction (add u) ≡ option_map add (after_fraction u)
  fraction_before [] = ap (λ t. cond t (after_digits zs) (Some (z ∷ zs))) outside.dot
  fraction_before (x ∷ xs) = ap (λ o. cond (x == 46) o (Some (add (x ∷ xs)))) (digits_before xs) ∙ chosen (x == 46) add (after_digits xs) (Some (x ∷ xs))

  exponent_before : (u : List ℕ) → after_exponent (add u) ≡ option_map add (after_exponent u)
  exponent_before [] = ap₂ (λ s t. cond (s || t) (after_digits (after_sign zs)) (Some (z ∷ zs))) outside.lower outside.upper
  exponent_before (x ∷ xs) =
      ap (λ o. cond ((x == 101) || (x == 69)) o (Some (add (x ∷ xs)))) (ap after_digits (sign_before xs) ∙ digits_before (after_sign xs))
      ∙ chosen ((x == 101) || (x == 69)) add (after_digits (after_sign xs)) (Some (x ∷ xs))

  number_before_z : (u : List ℕ) → after_number (add u) ≡ option_map add (after_number u)
  unfolding after_number
  number_before_z u =
      bound after_exponent add exponent_before _ _ (bound after_fraction add fraction_before _ _ (ap after_whole (minus_before u) ∙ whole_before (after_minus u)))

-- ---- tests that are the same of both texts

abbrev Keeps : Option (List ℕ) → Option (List ℕ) → Type 0
Keeps o p = is_some o ≡ true → p ≡ o

keeps_none : (o p : Option (List ℕ)) → o ≡ None → Keeps o p
keeps_none o p e g = absurd (false≢true (sym (ap is_some e) ∙ g))

keeps_prepend : (l : List ℕ) (o p : Option (List ℕ)) → Keeps o p → Keeps (prepend l o) (prepend l p)
keeps_prepend l None p h g = absurd (false≢true g)
keeps_prepend l (Some s) p h g = ap (prepend l) (h refl)

keeps_cond : (t : Bool) (o q p r : Option (List ℕ)) → Keeps o p → Keeps q r → Keeps (cond t o q) (cond t p r)
keeps_cond true o q p r h k = h
keeps_cond false o q p r h k = k

keeps_then : (f g : ℕ → Option (List ℕ)) (m : Option ℕ) → ((n : ℕ) → Keeps (f n) (g n)) → Keeps (option_and_then f m) (option_and_then g m)
keeps_then f g None h = λ e. refl
keeps_then f g (Some n) h = h n

one_token : (t : Bool) (p q r s : Token) → (is_good p ≡ true → r ≡ p) → (is_good q ≡ true → s ≡ q) → is_good (cond t p q) ≡ true → cond t r s ≡ cond t p q
one_token true p q r s h k = h
one_token false p q r s h k = k

held : (s t : Bool) (k : Token) → (s ≡ true → t ≡ true) → is_good (cond s k bad) ≡ true → cond t k bad ≡ cond s k bad
held true t k f g = ap (λ r. cond r k bad) (f refl)
held false t k f g = absurd (false≢true g)

one_letter : (t a b c d : Bool) → ((a && b) ≡ true → (c && d) ≡ true) → ((t && a) && b) ≡ true → ((t && c) && d) ≡ true
one_letter true a b c d f g = f g
one_letter false a b c d f g = absurd (false≢true g)

all_four : (w x y z : Bool) → (w && x && y && z) ≡ true → (w ≡ true) × (x ≡ true) × (y ≡ true) × (z ≡ true)
all_four true true true true e = (refl, refl, refl, refl)
all_four true true true false e = absurd (false≢true e)
all_four true true false z e = absurd (false≢true e)
all_four true false y z e = absurd (false≢true e)
all_four false x y z e = absurd (false≢true e)

refuted : {A : Type 0} (t : Bool) (o : Option A) → (t ≡ true → ⊥) → cond t o None ≡ None
refuted true o h = absurd (h refl)
refuted false o h = refl

-- ---- bytes from 127 on

abbrev AllHigh : List ℕ → Type 0
AllHigh [] = ⊤
AllHigh (x ∷ xs) = (127 ≤ x) × AllHigh xs

abbrev AllOther : List ℕ → Type 0
AllOther [] = ⊤
AllOther (x ∷ xs) = (class x ≡ other) × AllOther xs

abbrev AllLow : List ℕ → Type 0
AllLow [] = ⊤
AllLow (x ∷ xs) = (x < 127) × AllLow xs

high_class : (x : ℕ) → 127 ≤ x → class x ≡ other
high_class x h = rw (
  ne_eqb x 34 (λ e. omega arith),
  ne_eqb x 92 (λ e. omega arith),
  ne_eqb x 123 (λ e. omega arith),
  ne_eqb x 125 (λ e. omega arith),
  ne_eqb x 91 (λ e. omega arith),
  ne_eqb x 93 (λ e. omega arith),
  ne_eqb x 58 (λ e. omega arith),
  ne_eqb x 44 (λ e. omega arith),
  ne_eqb x 32 (λ e. omega arith),
  ne_eqb x 9 (λ e. omega arith),
  ne_eqb x 10 (λ e. omega arith),
  ne_eqb x 13 (λ e. omega arith),
)

high_ends_nothing : (x : ℕ) → 127 ≤ x → (is_operator x || is_space x) ≡ false
high_ends_nothing x h = rw (
  ne_eqb x 123 (λ e. omega arith),
  ne_eqb x 125 (λ e. omega arith),
  ne_eqb x 91 (λ e. omega arith),
  ne_eqb x 93 (λ e. omega arith),
  ne_eqb x 58 (λ e. omega arith),
  ne_eqb x 44 (λ e. omega arith),
  ne_eqb x 32 (λ e. omega arith),
  ne_eqb x 9 (λ e. omega arith),
  ne_eqb x 10 (λ e. omega arith),
  ne_eqb x 13 (λ e. omega arith),
)

high_other : (xs : List ℕ) → AllHigh xs → AllOther xs
high_other [] h = tt
high_other (x ∷ xs) h = (high_class x h.0, high_other xs h.1)

high_outside : (x : ℕ) → 127 ≤ x → IsOutside x
high_outside x h = record {
  minus = ne_eqb x 45 (λ e. omega arith);
  plus = ne_eqb x 43 (λ e. omega arith);
  nil = ne_eqb x 48 (λ e. omega arith);
  dot = ne_eqb x 46 (λ e. omega arith);
  lower = ne_eqb x 101 (λ e. omega arith);
  upper = ne_eqb x 69 (λ e. omega arith);
  digit = grind (arith, nat_tests);
}

high_no_digit : (x : ℕ) → 127 ≤ x → is_digit x 16 ≡ true → ⊥
high_no_digit x h e = false≢true (sym none ∙ e)
  where
    none : is_digit x 16 ≡ false
    none = rw (
      le-ltb x 48 (omega (arith, h)),
      le-ltb x 58 (omega (arith, h)),
      le-ltb x 65 (omega (arith, h)),
      le-ltb x 91 (omega (arith, h)),
      le-ltb x 97 (omega (arith, h)),
      le-ltb x 123 (omega (arith, h)),
    )

high_short : (x : ℕ) → 127 ≤ x → short_escape x ≡ None
unfolding short_escape
high_short x h = rw (
  ne_eqb x 34 (λ e. omega arith),
  ne_eqb x 92 (λ e. omega arith),
  ne_eqb x 47 (λ e. omega arith),
  ne_eqb x 98 (λ e. omega arith),
  ne_eqb x 102 (λ e. omega arith),
  ne_eqb x 110 (λ e. omega arith),
  ne_eqb x 114 (λ e. omega arith),
  ne_eqb x 116 (λ e. omega arith),
)

no_unit : (a b c d : ℕ) → ((127 ≤ a) ⊎ ((127 ≤ b) ⊎ ((127 ≤ c) ⊎ (127 ≤ d)))) → code_unit a b c d ≡ None
unfolding code_unit
no_unit a b c d h = refuted (is_digit a 16 && is_digit b 16 && is_digit c 16 && is_digit d 16) _ (λ e. by (all_four (is_digit a 16) (is_digit b 16) (is_digit c 16) (is_digit d 16) e) h)
  where
    by : (is_digit a 16 ≡ true) × (is_digit b 16 ≡ true) × (is_digit c 16 ≡ true) × (is_digit d 16 ≡ true) → ((127 ≤ a) ⊎ ((127 ≤ b) ⊎ ((127 ≤ c) ⊎ (127 ≤ d)))) → ⊥
    by f (inl k) = high_no_digit a k f.0
    by f (inr (inl k)) = high_no_digit b k f.1
    by f (inr (inr (inl k))) = high_no_digit c k f.2
    by f (inr (inr (inr k))) = high_no_digit d k f.3

-- four letters of which one is high are no unit
no_escape : (xs : List ℕ) (i : ℕ) → i < 4 → 127 ≤ get_or xs i 0 → content after_u xs ≡ None
unfolding content
no_escape [] i l h = refl
no_escape (a ∷ []) i l h = refl
no_escape (a ∷ b ∷ []) i l h = refl
no_escape (a ∷ b ∷ c ∷ []) i l h = refl
no_escape (a ∷ b ∷ c ∷ d ∷ xs) i l h = ap (λ o. option_and_then (λ u. cond (is_high_surrogate u) (content (after_high u) xs) (cond (is_low_surrogate u) None (prepend (encode_utf8 u) (content plain xs)))) o) (no_unit a b c d (one i l h))
  where
    one : (i : ℕ) → i < 4 → 127 ≤ get_or (a ∷ b ∷ c ∷ d ∷ xs) i 0 → ((127 ≤ a) ⊎ ((127 ≤ b) ⊎ ((127 ≤ c) ⊎ (127 ≤ d))))
    one zero l h = inl h
    one (suc zero) l h = inr (inl h)
    one (suc (suc zero)) l h = inr (inr (inl h))
    one (suc (suc (suc zero))) l h = inr (inr (inr h))
    one (suc (suc (suc (suc n)))) l h = absurd (omega (arith, l))

pair_test : (x y : Bool) → ((x && y) ≡ true → (x ≡ true) × (y ≡ true))
pair_test true true e = (refl, refl)
pair_test true false e = absurd (false≢true e)
pair_test false y e = absurd (false≢true e)

unless_none : (t : Bool) (o : Option (List ℕ)) → o ≡ None → cond t o None ≡ None
unless_none true o e = e
unless_none false o e = refl

no_pair : (n : ℕ) (xs : List ℕ) (i : ℕ) → i < 6 → 127 ≤ get_or xs i 0 → content (after_high n) xs ≡ None
unfolding content
no_pair n [] i l h = refl
no_pair n (s ∷ []) i l h = refl
no_pair n (s ∷ e ∷ []) i l h = refl
no_pair n (s ∷ e ∷ a ∷ []) i l h = refl
no_pair n (s ∷ e ∷ a ∷ b ∷ []) i l h = refl
no_pair n (s ∷ e ∷ a ∷ b ∷ c ∷ []) i l h = refl
no_pair n (s ∷ e ∷ a ∷ b ∷ c ∷ d ∷ xs) i l h = one i l h
  where
    no_low : ((127 ≤ a) ⊎ ((127 ≤ b) ⊎ ((127 ≤ c) ⊎ (127 ≤ d)))) → content (after_high n) (s ∷ e ∷ a ∷ b ∷ c ∷ d ∷ xs) ≡ None
    no_low k = unless_none ((s == 92) && (e == 117)) _ (ap (option_and_then (λ u. cond (is_low_surrogate u) (prepend (encode_utf8 (surrogate_pair n u)) (content plain xs)) None)) (no_unit a b c d k))

    one : (i : ℕ) → i < 6 → 127 ≤ get_or (s ∷ e ∷ a ∷ b ∷ c ∷ d ∷ xs) i 0 → content (after_high n) (s ∷ e ∷ a ∷ b ∷ c ∷ d ∷ xs) ≡ None
    one zero l h = refuted ((s == 92) && (e == 117)) _ (λ t. false≢true (sym (ne_eqb s 92 (λ q. omega (arith, q, h))) ∙ (pair_test _ _ t).0))
    one (suc zero) l h = refuted ((s == 92) && (e == 117)) _ (λ t. false≢true (sym (ne_eqb e 117 (λ q. omega (arith, q, h))) ∙ (pair_test _ _ t).1))
    one (suc (suc zero)) l h = no_low (inl h)
    one (suc (suc (suc zero))) l h = no_low (inr (inl h))
    one (suc (suc (suc (suc zero)))) l h = no_low (inr (inr (inl h)))
    one (suc (suc (suc (suc (suc zero))))) l h = no_low (inr (inr (inr h)))
    one (suc (suc (suc (suc (suc (suc n)))))) l h = absurd (omega (arith, l))

prepend-prepend : (a b : List ℕ) (o : Option (List ℕ)) → prepend a (prepend b o) ≡ prepend (a ++ b) o
prepend-prepend a b None = refl
prepend-prepend a b (Some s) = ap Some (sym (append_assoc a b s))

prepend-nil : (o : Option (List ℕ)) → prepend [] o ≡ o
prepend-nil None = refl
prepend-nil (Some s) = refl

-- in a string high bytes are themselves
high_run : (xs v : List ℕ) → AllHigh xs → content plain (xs ++ v) ≡ prepend xs (content plain v)
unfolding content
high_run [] v h = sym (prepend-nil _)
high_run (x ∷ xs) v h =
    (λ i. cond (ne_eqb x 34 (λ e. omega (arith, h.0, e)) i) (Some []) (cond (ne_eqb x 92 (λ e. omega (arith, h.0, e)) i) (content after_backslash (xs ++ v)) (cond (le-ltb x 32 (omega (arith, h.0)) i) None (prepend (x ∷ []) (high_run xs v h.1 i)))))
    ∙ prepend-prepend (x ∷ []) xs _

word_passes : (xs v : List ℕ) → AllOther xs → lex in_word (xs ++ v) ≡ lex in_word v
unfolding lex
word_passes [] v h = refl
word_passes (x ∷ xs) v h = ap (λ c. lex_byte in_word c x (xs ++ v) (λ m. lex m (xs ++ v))) h.0 ∙ word_passes xs v h.1

string_passes : (xs v : List ℕ) → AllOther xs → lex in_string (xs ++ v) ≡ lex in_string v
unfolding lex
string_passes [] v h = refl
string_passes (x ∷ xs) v h = ap (λ c. lex_byte in_string c x (xs ++ v) (λ m. lex m (xs ++ v))) h.0 ∙ string_passes xs v h.1

after_one : (l : Lexeme) (ls : List Lexeme) → Good (l ∷ ls) → Good ls
after_one (token t) ls g = g.1
after_one comma ls g = g
after_one colon ls g = g

same_string : (o p : Option (List ℕ)) → Keeps o p → is_good (string_token o) ≡ true → string_token p ≡ string_token o
same_string None p h g = absurd (false≢true g)
same_string (Some s) p h g = ap string_token (h refl)

-- one byte of both texts, before xs and before ys
step : (m : Mode) (c : Class) (x : ℕ) (xs ys : List ℕ) (k l : Mode → List Lexeme) → ((n : Mode) → Good (k n) → l n ≡ k n) → Keeps (content plain xs) (content plain ys)
    → (is_good (word (x ∷ xs)) ≡ true → word (x ∷ ys) ≡ word (x ∷ xs)) → Good (lex_byte m c x xs k) → lex_byte m c x ys l ≡ lex_byte m c x xs k
step between quote x xs ys k l h s w g = ap₂ (λ t r. token t ∷ r) (same_string _ _ s g.0) (h in_string g.1)
step between backslash x xs ys k l h s w g = absurd (false≢true g.0)
step between operator x xs ys k l h s w g = ap (λ r. operator_lexeme x ∷ r) (h between (after_one (operator_lexeme x) (k between) g))
step between space x xs ys k l h s w g = h between g
step between other x xs ys k l h s w g = ap₂ (λ t r. token t ∷ r) (w g.0) (h in_word g.1)
step in_word quote x xs ys k l h s w g = h in_word g
step in_word backslash x xs ys k l h s w g = h in_word g
step in_word operator x xs ys k l h s w g = ap (λ r. operator_lexeme x ∷ r) (h between (after_one (operator_lexeme x) (k between) g))
step in_word space x xs ys k l h s w g = h between g
step in_word other x xs ys k l h s w g = h in_word g
step in_string quote x xs ys k l h s w g = h between g
step in_string backslash x xs ys k l h s w g = h in_escape g
step in_string operator x xs ys k l h s w g = h in_string g
step in_string space x xs ys k l h s w g = h in_string g
step in_string other x xs ys k l h s w g = h in_string g
step in_escape c x xs ys k l h s w g = h in_string g

cut : (u r z : List ℕ) → take (length (u ++ z) - length (r ++ z)) (u ++ z) ≡ take (length u - length r) u
cut u r z =
    let n : length (u ++ z) - length (r ++ z) ≡ length u - length r = omega (arith, length-append u z, length-append r z) in
    ap (λ k. take k (u ++ z)) n ∙ take-append-le (length u - length r) u z (omega arith)

-- ---- a character's bytes and its escape, before v

record Escape (b : ℕ) (bs : List ℕ) (p q r s : ℕ) : Type 0 where
  code : ℕ
  unit : code_unit p q r s ≡ Some code
  not_high : is_high_surrogate code ≡ false
  not_low : is_low_surrogate code ≡ false
  spelled : encode_utf8 code ≡ b ∷ bs
  high : 127 ≤ b
  more : AllHigh bs
  digits : AllOther (p ∷ q ∷ r ∷ s ∷ [])

module _ (b : ℕ) (bs : List ℕ) (p q r s : ℕ) (v : List ℕ) (is : Escape b bs p q r s) where
  abbrev raw : List ℕ
  raw = b ∷ (bs ++ v)

  abbrev escaped : List ℕ
  escaped = 92 ∷ 117 ∷ p ∷ q ∷ r ∷ s ∷ v

  numbered : (u : List ℕ) (o : Option (List ℕ)) → is_good (number_before (u ++ raw) (option_map (λ w. w ++ raw) o)) ≡ true
      → number_before (u ++ escaped) (option_map (λ w. w ++ escaped) o) ≡ number_before (u ++ raw) (option_map (λ w. w ++ raw) o)
  numbered u None g = absurd (false≢true g)
  numbered u (Some []) g =
      absurd (false≢true (sym (ap (λ t. is_good (cond t (number (take (length (u ++ raw) - length raw) (u ++ raw))) bad)) (high_ends_nothing b is.high)) ∙ g))
  numbered u (Some (y ∷ ys)) g = ap (λ l. cond (is_operator y || is_space y) (number l) bad) (cut u (y ∷ ys) escaped ∙ sym (cut u (y ∷ ys) raw))

  outside_escape : IsOutside 92
  outside_escape = record { minus = refl; plus = refl; nil = refl; dot = refl; lower = refl; upper = refl; digit = refl }

  numbers : (u : List ℕ) → is_good (number_before (u ++ raw) (after_number (u ++ raw))) ≡ true
      → number_before (u ++ escaped) (after_number (u ++ escaped)) ≡ number_before (u ++ raw) (after_number (u ++ raw))
  numbers u g =
      let e = number_before_z b (bs ++ v) (high_outside b is.high) u in
      let f = number_before_z 92 (117 ∷ p ∷ q ∷ r ∷ s ∷ v) outside_escape u in
      ap (number_before (u ++ escaped)) f ∙ numbered u (after_number u) (ap (λ o. is_good (number_before (u ++ raw) o)) (sym e) ∙ g) ∙ sym (ap (number_before (u ++ raw)) e)

  letters : (name u : List ℕ) → AllLow name → (starts_with nat_eq (u ++ raw) name && ends_word (drop (length name) (u ++ raw))) ≡ true
      → (starts_with nat_eq (u ++ escaped) name && ends_word (drop (length name) (u ++ escaped))) ≡ true
  letters [] [] low g = absurd (true≢false (sym g ∙ high_ends_nothing b is.high))
  letters [] (y ∷ ys) low g = g
  letters (n ∷ name) [] low g =
      absurd (true≢false (sym g ∙ ap (λ t. (t && starts_with nat_eq (bs ++ v) name) && ends_word (drop (length name) (bs ++ v))) (ne_eqb n b (λ e. omega (arith, low.0, is.high, e)))))
  letters (n ∷ name) (y ∷ ys) low g = one_letter (nat_eq n y) _ _ _ _ (letters name ys low.1) g

  literals : (name u : List ℕ) (k : Token) → AllLow name → is_good (literal name k (u ++ raw)) ≡ true → literal name k (u ++ escaped) ≡ literal name k (u ++ raw)
  literals name u k low = held _ _ k (letters name u low)

  words : (x : ℕ) (u : List ℕ) → is_good (word (x ∷ (u ++ raw))) ≡ true → word (x ∷ (u ++ escaped)) ≡ word (x ∷ (u ++ raw))
  unfolding word
  words x u =
      one_token (x == 116) _ _ _ _ (literals ascii.true_text (x ∷ u) (boolean true) (omega arith, (omega arith, (omega arith, (omega arith, tt)))))
      (one_token (x == 102) _ _ _ _ (literals ascii.false_text (x ∷ u) (boolean false) (omega arith, (omega arith, (omega arith, (omega arith, (omega arith, tt))))))
      (one_token (x == 110) _ _ _ _ (literals ascii.null_text (x ∷ u) null (omega arith, (omega arith, (omega arith, (omega arith, tt))))) (numbers (x ∷ u))))

  no_word : is_good (word raw) ≡ false
  unfolding word after_number
  no_word = (λ i. is_good (cond (ne_eqb b 116 (λ e. omega (arith, is.high, e)) i) (literal ascii.true_text (boolean true) raw)
      (cond (ne_eqb b 102 (λ e. omega (arith, is.high, e)) i) (literal ascii.false_text (boolean false) raw)
      (cond (ne_eqb b 110 (λ e. omega (arith, is.high, e)) i) (literal ascii.null_text null raw) (number_before raw (number_before_z b (bs ++ v) (high_outside b is.high) [] i))))))

  here : content plain escaped ≡ content plain raw
  unfolding content
  here =
      let of_unit : ℕ → Option (List ℕ) = λ u. cond (is_high_surrogate u) (content (after_high u) v) (cond (is_low_surrogate u) None (prepend (encode_utf8 u) (content plain v))) in
      ap (option_and_then of_unit) is.unit ∙ (λ i. cond (is.not_high i) (content (after_high is.code) v) (cond (is.not_low i) None (prepend (is.spelled i) (content plain v))))
      ∙ sym (high_run (b ∷ bs) v (is.high, is.more))

  contents : (w : Within) (u : List ℕ) → Keeps (content w (u ++ raw)) (content w (u ++ escaped))
  unfolding content
  contents plain [] = λ g. here
  contents plain (x ∷ u) =
      keeps_cond (x == 34) (Some []) _ (Some []) _ (λ g. refl) (keeps_cond (x == 92) _ _ _ _ (contents after_backslash u)
      (keeps_cond (nat_lt x 32) None _ None _ (λ g. refl) (keeps_prepend (x ∷ []) _ _ (contents plain u))))
  contents after_backslash [] = keeps_none _ _ (λ i. cond (ne_eqb b 117 (λ e. omega (arith, is.high, e)) i) (content after_u (bs ++ v)) (option_and_then (λ c. prepend (c ∷ []) (content plain (bs ++ v))) (high_short b is.high i)))
  contents after_backslash (x ∷ u) = keeps_cond (x == 117) _ _ _ _ (contents after_u u) (keeps_then _ _ (short_escape x) (λ n. keeps_prepend (n ∷ []) _ _ (contents plain u)))
  contents after_u [] = keeps_none _ _ (no_escape raw 0 (omega arith) is.high)
  contents after_u (x ∷ []) = keeps_none _ _ (no_escape (x ∷ raw) 1 (omega arith) is.high)
  contents after_u (x ∷ y ∷ []) = keeps_none _ _ (no_escape (x ∷ y ∷ raw) 2 (omega arith) is.high)
  contents after_u (x ∷ y ∷ z ∷ []) = keeps_none _ _ (no_escape (x ∷ y ∷ z ∷ raw) 3 (omega arith) is.high)
  contents after_u (x ∷ y ∷ z ∷ t ∷ u) =
      keeps_then _ _ (code_unit x y z t) (λ n. keeps_cond (is_high_surrogate n) _ _ _ _ (contents (after_high n) u) (keeps_cond (is_low_surrogate n) None _ None _ (λ g. refl) (keeps_prepend (encode_utf8 n) _ _ (contents plain u))))
  contents (after_high h) [] = keeps_none _ _ (no_pair h raw 0 (omega arith) is.high)
  contents (after_high h) (x ∷ []) = keeps_none _ _ (no_pair h (x ∷ raw) 1 (omega arith) is.high)
  contents (after_high h) (x ∷ y ∷ []) = keeps_none _ _ (no_pair h (x ∷ y ∷ raw) 2 (omega arith) is.high)
  contents (after_high h) (x ∷ y ∷ a ∷ []) = keeps_none _ _ (no_pair h (x ∷ y ∷ a ∷ raw) 3 (omega arith) is.high)
  contents (after_high h) (x ∷ y ∷ a ∷ c ∷ []) = keeps_none _ _ (no_pair h (x ∷ y ∷ a ∷ c ∷ raw) 4 (omega arith) is.high)
  contents (after_high h) (x ∷ y ∷ a ∷ c ∷ d ∷ []) = keeps_none _ _ (no_pair h (x ∷ y ∷ a ∷ c ∷ d ∷ raw) 5 (omega arith) is.high)
  contents (after_high h) (x ∷ y ∷ a ∷ c ∷ d ∷ e ∷ u) =
      keeps_cond ((x == 92) && (y == 117)) _ None _ None
      (keeps_then _ _ (code_unit a c d e) (λ n. keeps_cond (is_low_surrogate n) _ None _ None (keeps_prepend (encode_utf8 (surrogate_pair h n)) _ _ (contents plain u)) (λ g. refl))) (λ g. refl)

  begun : (m : Mode) → Good (lex m raw) → lex m escaped ≡ lex m raw
  unfolding lex
  begun between g = absurd (true≢false (sym (subst (λ c. Good (lex_byte between c b (bs ++ v) (λ n. lex n (bs ++ v)))) (high_class b is.high) g).0 ∙ no_word))
  begun in_word g = word_passes (p ∷ q ∷ r ∷ s ∷ []) v is.digits ∙ sym (word_passes (b ∷ bs) v (high_class b is.high, high_other bs is.more))
  begun in_string g = string_passes (p ∷ q ∷ r ∷ s ∷ []) v is.digits ∙ sym (string_passes (b ∷ bs) v (high_class b is.high, high_other bs is.more))
  begun in_escape g = string_passes (117 ∷ p ∷ q ∷ r ∷ s ∷ []) v (refl, is.digits) ∙ sym (string_passes bs v (high_other bs is.more))

  lexed : (m : Mode) (u : List ℕ) → Good (lex m (u ++ raw)) → lex m (u ++ escaped) ≡ lex m (u ++ raw)
  unfolding lex
  lexed m [] g = begun m g
  lexed m (x ∷ u) g = step m (class x) x (u ++ raw) (u ++ escaped) (λ n. lex n (u ++ raw)) (λ n. lex n (u ++ escaped)) (λ n. lexed n u) (contents plain u) (words x u) g

  reads_escape : (u : List ℕ) (d : Data) → read (u ++ raw) ≡ Some d → read (u ++ escaped) ≡ Some d
  reads_escape u d e =
      ap (λ ls. option_and_then of_json (option_and_then (λ p. json.if_last p.0 p.1) (json.value max_depth (punctuate fresh ls)))) (lexed between u (good_text (u ++ raw) d e)) ∙ e

-- ---- the digits of an escape

digit_other : (d : ℕ) → d < 16 → class (digit_char d) ≡ other
digit_other d l = is_other (class (digit_char d)) (agree_below_at (λ x. other_class (class (digit_char x))) (λ x. true) 16 d refl l)
  where
    other_class : Class → Bool
    other_class quote = false
    other_class backslash = false
    other_class operator = false
    other_class space = false
    other_class other = true

    is_other : (c : Class) → other_class c ≡ true → c ≡ other
    is_other quote e = absurd (false≢true e)
    is_other backslash e = absurd (false≢true e)
    is_other operator e = absurd (false≢true e)
    is_other space e = absurd (false≢true e)
    is_other other e = refl

unit_is : (a b c d w x y z : ℕ) → digit_value a ≡ w → digit_value b ≡ x → digit_value c ≡ y → digit_value d ≡ z → w < 16 → x < 16 → y < 16 → z < 16
    → code_unit a b c d ≡ Some (w * 4096 + x * 256 + y * 16 + z)
unfolding code_unit
unit_is a b c d w x y z e f g h i j k l =
    (λ t. cond (nat_lt (e t) 16 && nat_lt (f t) 16 && nat_lt (g t) 16 && nat_lt (h t) 16) (Some (e t * 4096 + f t * 256 + g t * 16 + h t)) None)
    ∙ (λ t. cond (lt-ltb w 16 i t && lt-ltb x 16 j t && lt-ltb y 16 k t && lt-ltb z 16 l t) (Some (w * 4096 + x * 256 + y * 16 + z)) None)

unit_of_code : (c : ℕ) → c < 65536 → code_unit (digit_char (c / 256 / 16)) (digit_char (c / 256 % 16)) (digit_char (c % 256 / 16)) (digit_char (c % 256 % 16)) ≡ Some c
unit_of_code c h =
    let w = c / 256 / 16 in
    let x = c / 256 % 16 in
    let y = c % 256 / 16 in
    let z = c % 256 % 16 in
    let n : w * 4096 + x * 256 + y * 16 + z ≡ c = omega arith in
    unit_is (digit_char w) (digit_char x) (digit_char y) (digit_char z) w x y z
    (digit_value-digit_char w (omega (arith, h))) (digit_value-digit_char x (omega arith)) (digit_value-digit_char y (omega arith)) (digit_value-digit_char z (omega arith))
    (omega (arith, h)) (omega arith) (omega arith) (omega arith) ∙ ap Some n

record Spelled (c : ℕ) : Type 0 where
  first : ℕ
  rest : List ℕ
  spelled : encode_utf8 c ≡ first ∷ rest
  high : 127 ≤ first
  more : AllHigh rest

spells : (c : ℕ) → 127 ≤ c → c < 65536 → Spelled c
unfolding encode_utf8
spells c l h = by (cases_lt c 128) (cases_lt c 2048)
  where
    by : (c < 128) ⊎ (128 ≤ c) → (c < 2048) ⊎ (2048 ≤ c) → Spelled c
    by (inl k) b = record { first = c; rest = []; spelled = rw (lt-ltb c 128 k); high = l; more = tt }
    by (inr k) (inl m) = record { first = 192 + c / 64; rest = (128 + c % 64) ∷ []; spelled = rw (le-ltb c 128 k, lt-ltb c 2048 m); high = omega arith; more = (omega arith, tt) }
    by (inr k) (inr m) =
        record { first = 224 + c / 4096; rest = (128 + c / 64 % 64) ∷ (128 + c % 64) ∷ []; spelled = rw (le-ltb c 128 k, le-ltb c 2048 m, lt-ltb c 65536 h); high = omega arith; more = (omega arith, (omega arith, tt)) }

hidden_from : (c : ℕ) → is_hidden c ≡ true → 127 ≤ c
unfolding is_hidden
hidden_from c hidden = grind (arith, nat_tests)

surrogate_tests : (c : ℕ) → IsScalar c → (is_high_surrogate c ≡ false) × (is_low_surrogate c ≡ false)
surrogate_tests c is = (grind (arith, nat_tests), grind (arith, nat_tests))

-- one hidden character, which is escaped
reads_again : (u v : List ℕ) (c : ℕ) (d : Data) → IsScalar c → is_hidden c ≡ true → read (u ++ (encode_utf8 c ++ v)) ≡ Some d → read (u ++ (code_escape c ++ v)) ≡ Some d
reads_again u v c d is hidden e =
    let h = hidden_below c hidden in
    let k = spells c (hidden_from c hidden) h in
    let none = surrogate_tests c is in
    reads_escape k.first k.rest _ _ _ _ v (record {
      code = c;
      unit = unit_of_code c h;
      not_high = none.0;
      not_low = none.1;
      spelled = k.spelled;
      high = k.high;
      more = k.more;
      digits = (digit_other (c / 256 / 16) (omega (arith, h)), (digit_other (c / 256 % 16) (omega arith), (digit_other (c % 256 / 16) (omega arith), (digit_other (c % 256 % 16) (omega arith), tt))));
    }) u d (ap (λ w. read (u ++ (w ++ v))) (sym k.spelled) ∙ e)

-- the first of the characters after u, which may be hidden
reads_char : (h : Bool) (u v : List ℕ) (c : ℕ) (d : Data) → IsScalar c → is_hidden c ≡ h → read (u ++ (encode_utf8 c ++ v)) ≡ Some d → read (u ++ ((if h then code_escape c else encode_utf8 c) ++ v)) ≡ Some d
reads_char true u v c d is hidden e = reads_again u v c d is hidden e
reads_char false u v c d is hidden e = e

reads_chars : (cs u : List ℕ) (d : Data) → scalars cs ≡ true → read (u ++ encodes cs) ≡ Some d → read (u ++ flat_map printed_char cs) ≡ Some d
reads_chars [] u d are e = e
reads_chars (c ∷ cs) u d are e =
    let is = and_parts (scalar c) (scalars cs) are in
    let first = reads_char (is_hidden c) u (encodes cs) c d is.0 refl e in
    let more = reads_chars cs (u ++ printed_char c) d is.1 (ap read (append_assoc u (printed_char c) (encodes cs)) ∙ first) in
    ap read (sym (append_assoc u (printed_char c) (flat_map printed_char cs))) ∙ more

-- what is printed of a text that is read is read as the same
pub reads_printed : (text : List ℕ) (d : Data) → IsUtf8 text → read text ≡ Some d → read (printed_json text) ≡ Some d
unfolding printed_json
reads_printed text d is e = reads_chars (chars text) [] d (scalars-chars text is) (ap read (encodes-chars text is) ∙ e)

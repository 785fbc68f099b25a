-- Printed texts in quotes have no quote, and are read as they were.
use Rattle.std.proofs.Common.{◌≡◌, ℕ, ◌==◌, ◌&&◌, Bool, true, false, cond, List, [], ◌∷◌, ◌++◌, length, Option, None, Some, refl, sym, ap, ◌∙◌, subst, eqb-true, zero, suc, arith}
use Rattle.std.proofs.lemmas.Bool.{false≢true}
use Rattle.std.proofs.lemmas.List.Elements.{All-from_recursion}
use Rattle.std.specs.Prelude.{All, is_some}
use Rattle.std.specs.List.{AllByRecursion, flat_map}
use Rattle.std.specs.Char.{is_digit}
use Rattle.script_words.specs.Printing.{escape, shown, shown_byte}
use Rattle.script_words.specs.Text.{after_escape, escape_of, text_of, text_past, with_byte}
use Rattle.std.proofs.lemmas.Grind.{flat_map-append}
use Rattle.std.proofs.lemmas.List.{append-nil}
use Rattle.std.specs.Str.{bytes_eq}
use Rattle.case_screens.specs.Quotes.{between_quotes, quoted_byte, quoted_shown}

-- the first n bytes are no quotes
abbrev pub Plain : ℕ → List ℕ → Type 0
Plain zero w = Unit {0}
Plain (suc n) [] = Unit {0}
Plain (suc n) (c ∷ cs) = ((c == 39) ≡ false) × Plain n cs

-- a text behind a byte
some_rest : (c : ℕ) (o : Option (List ℕ)) → is_some (with_byte c o) ≡ true → is_some o ≡ true
some_rest c None s = absurd (false≢true s)
some_rest c (Some t) s = refl

escape_parts : (o : Option ℕ) (t : Option (List ℕ)) → is_some (after_escape o t) ≡ true → (is_some o ≡ true) × (is_some t ≡ true)
escape_parts None t s = absurd (false≢true s)
escape_parts (Some v) None s = absurd (false≢true s)
escape_parts (Some v) (Some t) s = (refl, refl)

three_tests : (a b c : Bool) (v : ℕ) → is_some (cond (a && b && c) (Some v) None) ≡ true → (a ≡ true) × (b ≡ true) × (c ≡ true)
three_tests true true true v s = (refl, refl, refl)
three_tests true true false v s = absurd (false≢true s)
three_tests true false c v s = absurd (false≢true s)
three_tests false b c v s = absurd (false≢true s)

x_plain : (x : ℕ) → (x == 120) ≡ true → (x == 39) ≡ false
x_plain x e = let h : x ≡ 120 = eqb-true x 120 e in rw h refl

digit_plain_by : (d : ℕ) (b : Bool) → (d == 39) ≡ b → is_digit d 16 ≡ true → (d == 39) ≡ false
digit_plain_by d true e digit = let h : d ≡ 39 = eqb-true d 39 e in let none : is_digit 39 16 ≡ true = subst (λ k. is_digit k 16 ≡ true) h digit in absurd (false≢true none)
digit_plain_by d false e digit = e

digit_plain : (d : ℕ) → is_digit d 16 ≡ true → (d == 39) ≡ false
digit_plain d digit = digit_plain_by d (d == 39) refl digit

-- an escape stays as it is
escape_kept : (cs : List ℕ) → is_some (escape_of cs) ≡ true → Plain 3 cs × (escape_of (between_quotes cs) ≡ escape_of cs)
escape_kept [] s = absurd (false≢true s)
escape_kept (x ∷ []) s = absurd (false≢true s)
escape_kept (x ∷ h ∷ []) s = absurd (false≢true s)
escape_kept (x ∷ h ∷ l ∷ rest) s =
    let tests = three_tests (x == 120) (is_digit h 16) (is_digit l 16) _ s in
    let px = x_plain x tests.0 in
    let ph = digit_plain h tests.1 in
    let pl = digit_plain l tests.2 in (
      (px, (ph, (pl, tt))),
      ap (λ b. escape_of (cond b (escape x) (x ∷ []) ++ between_quotes (h ∷ l ∷ rest))) px
          ∙ ap (λ b. escape_of (x ∷ (cond b (escape h) (h ∷ []) ++ between_quotes (l ∷ rest)))) ph
          ∙ ap (λ b. escape_of (x ∷ h ∷ (cond b (escape l) (l ∷ []) ++ between_quotes rest))) pl,
    )

escape_same : (cs : List ℕ) → (Plain 3 cs → is_some (text_past 3 cs) ≡ true → text_past 3 (between_quotes cs) ≡ text_past 3 cs)
    → is_some (after_escape (escape_of cs) (text_past 3 cs)) ≡ true
    → after_escape (escape_of (between_quotes cs)) (text_past 3 (between_quotes cs)) ≡ after_escape (escape_of cs) (text_past 3 cs)
escape_same cs behind s =
    let parts = escape_parts (escape_of cs) (text_past 3 cs) s in
    let kept = escape_kept cs parts.0 in
    ap (λ o. after_escape o (text_past 3 (between_quotes cs))) kept.1 ∙ ap (after_escape (escape_of cs)) (behind kept.0 parts.1)

plain_same : (c : ℕ) (cs : List ℕ) (q : Bool) → (c == 39) ≡ q → (c == 92) ≡ false
    → (is_some (text_past 0 cs) ≡ true → text_past 0 (between_quotes cs) ≡ text_past 0 cs)
    → is_some (text_past 0 (c ∷ cs)) ≡ true → text_past 0 (between_quotes (c ∷ cs)) ≡ text_past 0 (c ∷ cs)
plain_same c cs true q e behind s =
    let h : c ≡ 39 = eqb-true c 39 q in
    let some : is_some (text_past 0 (39 ∷ cs)) ≡ true = subst (λ k. is_some (text_past 0 (k ∷ cs)) ≡ true) h s in
    subst (λ k. text_past 0 (between_quotes (k ∷ cs)) ≡ text_past 0 (k ∷ cs)) (sym h) (ap (with_byte 39) (behind (some_rest 39 (text_past 0 cs) some)))
plain_same c cs false q e behind s =
    let rest : is_some (text_past 0 cs) ≡ true =
    some_rest c (text_past 0 cs) (sym (ap (λ b. is_some (cond b (after_escape (escape_of cs) (text_past 3 cs)) (with_byte c (text_past 0 cs)))) e) ∙ s) in
    ap (λ b. text_past 0 (cond b (escape c) (c ∷ []) ++ between_quotes cs)) q
    ∙ ap (λ b. cond b (after_escape (escape_of (between_quotes cs)) (text_past 3 (between_quotes cs))) (with_byte c (text_past 0 (between_quotes cs)))) e
    ∙ ap (with_byte c) (behind rest)
    ∙ sym (ap (λ b. cond b (after_escape (escape_of cs) (text_past 3 cs)) (with_byte c (text_past 0 cs))) e)

same_by : (c : ℕ) (cs : List ℕ) (b : Bool) → (c == 92) ≡ b
    → (is_some (text_past 0 cs) ≡ true → text_past 0 (between_quotes cs) ≡ text_past 0 cs)
    → (Plain 3 cs → is_some (text_past 3 cs) ≡ true → text_past 3 (between_quotes cs) ≡ text_past 3 cs)
    → is_some (text_past 0 (c ∷ cs)) ≡ true → text_past 0 (between_quotes (c ∷ cs)) ≡ text_past 0 (c ∷ cs)
same_by c cs true e behind far s =
    let h : c ≡ 92 = eqb-true c 92 e in
    let some : is_some (text_past 0 (92 ∷ cs)) ≡ true = subst (λ k. is_some (text_past 0 (k ∷ cs)) ≡ true) h s in
    subst (λ k. text_past 0 (between_quotes (k ∷ cs)) ≡ text_past 0 (k ∷ cs)) (sym h) (escape_same cs far some)
same_by c cs false e behind far s = plain_same c cs (c == 39) refl e behind s

-- what is a text is the same text between quotes
same : (n : ℕ) (w : List ℕ) → Plain n w → is_some (text_past n w) ≡ true → text_past n (between_quotes w) ≡ text_past n w
same zero [] p s = refl
same (suc n) [] p s = refl
same (suc n) (c ∷ cs) p s = ap (λ b. text_past (suc n) (cond b (escape c) (c ∷ []) ++ between_quotes cs)) p.0 ∙ same n cs p.1 s
same zero (c ∷ cs) p s = same_by c cs (c == 92) refl (λ some. same 0 cs tt some) (λ plain some. same 3 cs plain some) s

pub read_between : (word text : List ℕ) → text_of word ≡ Some text → text_of (between_quotes word) ≡ Some text
read_between word text e = same 0 word tt (ap is_some e) ∙ e

byte_then : (c : ℕ) (b : Bool) → (c == 39) ≡ b → (rest : List ℕ) → AllByRecursion (λ c. c ≡ 39 → ⊥) rest → AllByRecursion (λ c. c ≡ 39 → ⊥) (quoted_byte c ++ rest)
byte_then c true e rest all =
    let h : c ≡ 39 = eqb-true c 39 e in
    let four : AllByRecursion (λ c. c ≡ 39 → ⊥) (quoted_byte 39 ++ rest) =
    ((λ is. absurd (omega (arith, is))), ((λ is. absurd (omega (arith, is))), ((λ is. absurd (omega (arith, is))), ((λ is. absurd (omega (arith, is))), all)))) in
    subst (λ k. AllByRecursion (λ c. c ≡ 39 → ⊥) (quoted_byte k ++ rest)) (sym h) four
byte_then c false e rest all =
    subst (λ b. AllByRecursion (λ c. c ≡ 39 → ⊥) (cond b (escape c) (c ∷ []) ++ rest)) (sym e) ((λ is. false≢true (sym e ∙ ap (λ k. k == 39) is)), all)

whole_by : (w : List ℕ) → AllByRecursion (λ c. c ≡ 39 → ⊥) (between_quotes w)
whole_by [] = tt
whole_by (c ∷ cs) = byte_then c (c == 39) refl (between_quotes cs) (whole_by cs)

pub no_quote : (w : List ℕ) → All (λ c. c ≡ 39 → ⊥) (between_quotes w)
no_quote w = All-from_recursion (λ c. c ≡ 39 → ⊥) (between_quotes w) (whole_by w)

-- a name between quotes, byte by byte
pub between_names : (name : List ℕ) → between_quotes (flat_map shown_byte name) ≡ flat_map quoted_shown name
between_names [] = refl
between_names (c ∷ cs) = flat_map-append quoted_byte (shown_byte c) (flat_map shown_byte cs) ∙ ap (λ l. quoted_shown c ++ l) (between_names cs)

one_shown : (c : ℕ) (b : Bool) → (c == 45) ≡ b → bytes_eq (c ∷ []) (45 ∷ []) ≡ false → shown (c ∷ []) ≡ flat_map shown_byte (c ∷ [])
one_shown c true e other =
    let h : c ≡ 45 = eqb-true c 45 e in
    let same : bytes_eq (45 ∷ []) (45 ∷ []) ≡ false = subst (λ k. bytes_eq (k ∷ []) (45 ∷ []) ≡ false) h other in
    absurd (false≢true (sym same))
one_shown c false e other = ap (λ b. cond b (escape c) (shown_byte c)) e ∙ sym (append-nil (shown_byte c))

-- a name prints byte by byte, but for the empty one and a minus
pub shown_long : (name : List ℕ) → (length name == 0) ≡ false → bytes_eq name (45 ∷ []) ≡ false → shown name ≡ flat_map shown_byte name
shown_long [] some other = absurd (false≢true (sym some))
shown_long (c ∷ []) some other = one_shown c (c == 45) refl other
shown_long (c ∷ d ∷ cs) some other = refl

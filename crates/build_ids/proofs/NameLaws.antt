-- Names by build ID.
use Rattle.std.proofs.Common.{◌≡◌, ◌<◌, ◌≤◌, inl, inr, ℕ, ◌+◌, ◌*◌, ◌/◌, ◌%◌, ltb, Bool, true, false, cond, List, [], ◌∷◌, ◌++◌, drop, length, Some, None, get_or, All, Option, MatchOption, refl, ap, sym, ◌∙◌, arith}
use Rattle.std.specs.Prelude.{◌||◌, ◌⊎◌, nat_eq, nat_le, codes}
use Rattle.std.specs.Char.{digit_char}
use Rattle.std.specs.List.{list_any}
use Rattle.std.specs.Option.{unwrap_or}
use Rattle.std.proofs.lemmas.Bool.{ne_eqb, true≢false, ltb-true, leb-true, and_parts, le-leb}
use Rattle.std.proofs.lemmas.List.{append_cancel_right}
use Rattle.arrayvec.specs.ArrayVec.{ArrayVec}
use Rattle.elf_view.specs.Field.{part}
use Rattle.script_words.specs.Hex.{bytes_of_hex, hex_of, needle_of}
use Rattle.build_ids.specs.BuildName.{IsNameOf, build_name, debug_name, has_name}

first : List ℕ → ℕ
first xs = get_or xs 0 0

-- digits are those of one number, and none is a dot or a slash
char_by : (a b : ℕ) (s t : Bool) → ltb a 10 ≡ s → ltb b 10 ≡ t → cond s (48 + a) (87 + a) ≡ cond t (48 + b) (87 + b) → a ≡ b
char_by a b true true low less e = omega (arith, e)
char_by a b true false low less e = let below = ltb-true a 10 low in omega (arith, e, below)
char_by a b false true low less e = let below = ltb-true b 10 less in omega (arith, e, below)
char_by a b false false low less e = omega (arith, e)

char_inj : (a b : ℕ) → digit_char a ≡ digit_char b → a ≡ b
char_inj a b e = char_by a b (ltb a 10) (ltb b 10) refl refl e

char_above : (a : ℕ) → 48 ≤ digit_char a
char_above a = by (ltb a 10)
  where
    by : (t : Bool) → 48 ≤ cond t (48 + a) (87 + a)
    by true = omega arith
    by false = omega arith

-- digits of bytes are those of no other bytes
hex_inj : (xs ys : List ℕ) → hex_of xs ≡ hex_of ys → xs ≡ ys
unfolding first
hex_inj [] [] e = refl
hex_inj [] (y ∷ ys) e = let long = ap length e in absurd (omega (arith, long))
hex_inj (x ∷ xs) [] e = let long = ap length e in absurd (omega (arith, long))
hex_inj (x ∷ xs) (y ∷ ys) e =
    let high = char_inj (x / 16) (y / 16) (ap first e) in
    let low = char_inj (x % 16) (y % 16) (ap first (ap (drop 1) e)) in
    let same : x ≡ y = omega (arith, high, low) in
    ap (λ c. c ∷ xs) same ∙ ap (λ cs. y ∷ cs) (hex_inj xs ys (ap (drop 2) e))

long_hex : (xs : List ℕ) → length (hex_of xs) ≡ 2 * length xs
long_hex [] = refl
long_hex (x ∷ xs) = let rest = long_hex xs in omega (arith, rest)

-- a name is of one build
pub build_inj : (a b : List ℕ) → build_name a ≡ build_name b → a ≡ b
unfolding build_name first
build_inj [] [] e = refl
build_inj [] (y ∷ ys) e = let long = ap length e in absurd (omega (arith, long))
build_inj (x ∷ xs) [] e = let long = ap length e in absurd (omega (arith, long))
build_inj (x ∷ xs) (y ∷ ys) e =
    let high = char_inj (x / 16) (y / 16) (ap first (ap (drop 10) e)) in
    let low = char_inj (x % 16) (y % 16) (ap first (ap (drop 11) e)) in
    let same : x ≡ y = omega (arith, high, low) in
    ap (λ c. c ∷ xs) same ∙ ap (λ cs. y ∷ cs) (hex_inj xs ys (ap (drop 13) e))

pub debug_inj : (a b : List ℕ) → debug_name a ≡ debug_name b → a ≡ b
unfolding debug_name
debug_inj a b e = build_inj a b (append_cancel_right (build_name a) (build_name b) (codes ".debug") e)

-- behind its first byte a name of an executable has no dot
has_dot : List ℕ → Bool
has_dot xs = list_any (nat_eq 46) xs

no_dot : (xs : List ℕ) → has_dot (hex_of xs) ≡ false
unfolding has_dot
no_dot [] = refl
no_dot (x ∷ xs) = rw (other (x / 16), other (x % 16)) (no_dot xs)
  where
    other : (a : ℕ) → nat_eq 46 (digit_char a) ≡ false
    other a = let above = char_above a in ne_eqb 46 (digit_char a) (λ e. omega (arith, above, e))

no_dot_behind : (a : List ℕ) → has_dot (drop 1 (build_name a)) ≡ false
unfolding build_name has_dot
no_dot_behind [] = refl
no_dot_behind (x ∷ xs) = no_dot (x ∷ xs)

with_dot : (xs : List ℕ) → has_dot (xs ++ codes ".debug") ≡ true
unfolding has_dot
with_dot [] = refl
with_dot (x ∷ xs) = either (nat_eq 46 x) (with_dot xs)
  where
    either : (t : Bool) {u : Bool} → u ≡ true → (t || u) ≡ true
    either true e = refl
    either false e = e

-- so it does not end as the name of a debug file does
pub no_debug_end : (a front : List ℕ) → build_name a ≡ front ++ codes ".debug" → ⊥
unfolding build_name
no_debug_end a [] e = absurd (omega (arith, ap (λ xs. get_or xs 1 0) e))
no_debug_end a (x ∷ xs) e = true≢false (sym (with_dot xs) ∙ sym (ap (λ ys. has_dot (drop 1 ys)) e) ∙ no_dot_behind a)

pub apart : (a b : List ℕ) → build_name a ≡ debug_name b → ⊥
unfolding debug_name
apart a b e = no_debug_end a (build_name b) e

pub no_path : (a rest : List ℕ) → build_name a ≡ 47 ∷ rest → ⊥
unfolding build_name
no_path a rest e = absurd (omega (arith, ap (λ xs. get_or xs 0 0) e))

pub no_debug_path : (a rest : List ℕ) → debug_name a ≡ 47 ∷ rest → ⊥
unfolding build_name debug_name
no_debug_path a rest e = absurd (omega (arith, ap (λ xs. get_or xs 0 0) e))

-- the places of the digits in a name
pub few : (id : List ℕ) → has_name id ≡ true → (2 ≤ length id) × (length id ≤ 55)
few id h =
    let both = and_parts (nat_le 2 (length id)) (nat_le (length id) 55) h in
    (leb-true 2 (length id) both.0, leb-true (length id) 55 both.1)

pub long_name : (id : List ℕ) → 1 ≤ length id → length (build_name id) ≡ 11 + 2 * length id
unfolding build_name
long_name [] h = absurd (omega (arith, h))
long_name (x ∷ xs) h = let long = long_hex xs in omega (arith, long)

digits_at : (id : List ℕ) → 1 ≤ length id → part (build_name id) 10 2 ++ drop 13 (build_name id) ≡ hex_of id
unfolding build_name
digits_at [] h = absurd (omega (arith, h))
digits_at (x ∷ xs) h = refl

-- the digits of a name are read as its ID
pub no_places : (stem id : List ℕ) → has_name id ≡ true → stem ≡ build_name id → length stem < 15 ⊎ 121 < length stem → ⊥
no_places stem id h is far =
    let within = few id h in
    let long = ap length is ∙ long_name id (omega (arith, within.0)) in
    elim far [
      | inl short ↦ absurd (omega (arith, within.0, long, short))
      | inr past ↦ absurd (omega (arith, within.1, long, past))
    ]

pub read_again : ((bytes : List ℕ) → All (λ c. c < 256) bytes → bytes_of_hex (hex_of bytes) ≡ Some bytes)
    → (stem digits id : List ℕ) → All (λ c. c < 256) id → has_name id ≡ true → stem ≡ build_name id → digits ≡ part stem 10 2 ++ drop 13 stem → needle_of digits ≡ Some id
read_again reads stem digits id each h is are =
    let within = few id h in
    let same : digits ≡ hex_of id = are ∙ ap (λ xs. part xs 10 2 ++ drop 13 xs) is ∙ digits_at id (omega (arith, within.0)) in
    let long = long_hex id in
    rw same (rw (le-leb 2 (length (hex_of id)) (omega (arith, long, within.0)), le-leb (length (hex_of id)) 128 (omega (arith, long, within.1))) (reads id each))

-- of a name and its stem
pub of_stem : (name stem id : List ℕ) → (name ≡ stem) ⊎ (name ≡ stem ++ codes ".debug") → (has_name id ≡ true) × (stem ≡ build_name id) → IsNameOf id name
unfolding debug_name
of_stem name stem id (inl is) named = (named.0, inl (is ∙ named.1))
of_stem name stem id (inr is) named = (named.0, inr (is ∙ ap (λ xs. xs ++ codes ".debug") named.1))

pub stem_is : (name stem id : List ℕ) → (name ≡ stem) ⊎ (name ≡ stem ++ codes ".debug") → ((front : List ℕ) → name ≡ front ++ codes ".debug" → stem ≡ front) → IsNameOf id name → stem ≡ build_name id
unfolding debug_name
stem_is name stem id either without (h, inr debug) = without (build_name id) debug
stem_is name stem id (inl is) without (h, inl build) = sym is ∙ build
stem_is name stem id (inr is) without (h, inl build) = absurd (no_debug_end id stem (sym build ∙ is))

pub by_stem : (name stem : List ℕ) (r : Option (ArrayVec ℕ)) → (name ≡ stem) ⊎ (name ≡ stem ++ codes ".debug") → ((front : List ℕ) → name ≡ front ++ codes ".debug" → stem ≡ front)
    → MatchOption r ((id : List ℕ) → All (λ c. c < 256) id → has_name id ≡ true → stem ≡ build_name id → ⊥) (λ id. (has_name id.items ≡ true) × (stem ≡ build_name id.items))
    → MatchOption r ((id : List ℕ) → All (λ c. c < 256) id → IsNameOf id name → ⊥) (λ id. IsNameOf id.items name)
by_stem name stem None either without is = λ id each of. is id each of.0 (stem_is name stem id either without of)
by_stem name stem (Some id) either without is = of_stem name stem id.items either is

pub some_same : {x y : List ℕ} → Some x ≡ Some y → x ≡ y
some_same {x} e = ap (λ (o : Option (List ℕ)). unwrap_or o x) e

-- Where texts begin and end among addresses in a row.
use Rattle.std.proofs.Common.{◌≡◌, ◌⊎◌, inl, inr, ⊎_elim, ℕ, zero, suc, ◌+◌, ◌-◌, ◌^◌, ◌<◌, ◌≤◌, ◌||◌, not, eqb, leb, cond, Bool, true, false, List, [], ◌∷◌, ◌++◌, get_or, length, take, drop, filter, map, refl, ap, sym, subst, ◌∙◌, arith}
use Rattle.std.proofs.lemmas.Bool.{cases_Bool, cond-true, cond-false, leb-true, cases_lt}
use Rattle.std.proofs.lemmas.List.{length-drop, length-take, map-append, take_all}
use Rattle.std.proofs.Math.Seq.{drop-cons}
use Rattle.std.proofs.lemmas.List.Elements.{filter-append}
use Rattle.std.specs.List.{range_with_len}
use Rattle.elf_view.specs.Field.{part}
use Rattle.address_space.specs.Occurrence.{begins_text, is_long, is_text_at, is_text_byte, is_text_value, text_from}
use Rattle.address_space.specs.Source.{Space, value_at}
use Rattle.address_space.proofs.Texts.{first_behind, no_text, text_before, text_begins, text_len_ends}
use Rattle.windowed_search.specs.Runs.{values_from}
use Rattle.windowed_search.specs.TextBytes.{AreOf, front_len, is_of}
use Rattle.windowed_search.specs.TextWords.{NoText, texts_before}
use Rattle.windowed_search.proofs.Values.{few, filter_below, first_is, no_value, none_pass, values_cut}

-- the bytes of one kind that come first, if some were passed over
pub front_more : (text : Bool) (xs : List ℕ) (i d : ℕ) → i < length xs → is_of text (get_or xs i d) ≡ true → front_len text (drop i xs) ≡ front_len text (drop (i + 1) xs) + 1
unfolding front_len
front_more text xs i d within is =
    let next : suc i ≡ i + 1 = omega arith in
    ap (front_len text) (drop-cons xs i d within) ∙ cond-true (is_of text (get_or xs i d)) _ _ is ∙ ap (λ n. front_len text (drop n xs) + 1) next

pub front_stops : (text : Bool) (xs : List ℕ) (i d : ℕ) → i < length xs → is_of text (get_or xs i d) ≡ false → front_len text (drop i xs) ≡ 0
unfolding front_len
front_stops text xs i d within is = ap (front_len text) (drop-cons xs i d within) ∙ cond-false (is_of text (get_or xs i d)) _ _ is

pub front_none : (text : Bool) (xs : List ℕ) → length xs ≡ 0 → front_len text xs ≡ 0
unfolding front_len
front_none text [] none = refl
front_none text (x ∷ xs) none = absurd (omega (arith, none))

pub front_fits : (text : Bool) (xs : List ℕ) → front_len text xs ≤ length xs
unfolding front_len
front_fits text [] = omega arith
front_fits text (x ∷ xs) =
    let rest = front_fits text xs in
    elim (is_of text x) as (λ t. cond t (front_len text xs + 1) 0 ≤ suc (length xs)) [ true ↦ omega (arith, rest) | false ↦ omega arith ]

pub front_are : (text : Bool) (xs : List ℕ) → AreOf text (take (front_len text xs) xs)
unfolding front_len
front_are text [] = tt
front_are text (x ∷ xs) = elim (cases_Bool (is_of text x)) as (λ _. AreOf text (take (cond (is_of text x) (front_len text xs + 1) 0) (x ∷ xs))) [
  | inl is ↦
      let more : suc (front_len text xs) ≡ front_len text xs + 1 = omega arith in
      subst (λ n. AreOf text (take n (x ∷ xs))) (more ∙ sym (cond-true (is_of text x) _ _ is)) (is, front_are text xs)
  | inr other ↦ subst (λ n. AreOf text (take n (x ∷ xs))) (sym (cond-false (is_of text x) _ _ other)) tt
]

-- of bytes that come first some are text, or some are none
pub some_first : (xs : List ℕ) → 0 < length xs → 0 < front_len true xs + front_len false (drop (front_len true xs) xs)
unfolding front_len
some_first [] some = absurd (omega (arith, some))
some_first (x ∷ xs) some =
    elim (cases_Bool (is_text_byte x)) as (λ _. 0 < front_len true (x ∷ xs) + front_len false (drop (front_len true (x ∷ xs)) (x ∷ xs))) [
      | inl is ↦ (let n = cond-true (is_text_byte x) (front_len true xs + 1) 0 is in omega (arith, n))
      | inr other ↦
          let none : front_len true (x ∷ xs) ≡ 0 = cond-false (is_text_byte x) _ _ other in
          subst (λ n. 0 < n + front_len false (drop n (x ∷ xs))) (sym none)
          (let here : front_len false (x ∷ xs) ≡ front_len false xs + 1 = cond-true (not (is_text_byte x)) _ _ (ap not other) in omega (arith, here))
    ]

of_is : (text : Bool) (x : ℕ) → is_of text x ≡ true → is_text_byte x ≡ text
of_is true x is = is
of_is false x is = other (is_text_byte x) is
  where
    other : (b : Bool) → not b ≡ true → b ≡ false
    other true h = sym h
    other false h = refl

-- the addresses of such bytes
pub run_of : (space : Space) (text : Bool) (xs : List ℕ) (a : ℕ) → values_from space a (length xs) ≡ xs → AreOf text xs → (k : ℕ) → k < length xs → is_text_at space (a + k) ≡ text
unfolding values_from
run_of space text [] a values are k less = absurd (omega (arith, less))
run_of space text (x ∷ xs) a values are zero less =
    let parts = first_is (value_at space a) _ xs x (few space (length xs) (a + 1)) values in
    let here : a + 0 ≡ a = omega arith in
    ap (is_text_at space) here ∙ ap is_text_value parts.0 ∙ of_is text x are.0
run_of space text (x ∷ xs) a values are (suc k) less =
    let parts = first_is (value_at space a) _ xs x (few space (length xs) (a + 1)) values in
    let next : a + suc k ≡ a + 1 + k = omega arith in
    ap (is_text_at space) next ∙ run_of space text xs (a + 1) parts.1 are.1 k (omega (arith, less))

pub none_of : (space : Space) (xs : List ℕ) (a : ℕ) → values_from space a (length xs) ≡ xs → AreOf false xs → NoText space a (length xs)
none_of space xs a values are b low high =
    let at : a + (b - a) ≡ b = omega (arith, low) in
    subst (λ c. is_text_at space c ≡ false) at (run_of space false xs a values are (b - a) (omega (arith, low, high)))

pub no_text_there : (space : Space) (a n : ℕ) → values_from space a n ≡ [] → NoText space a n
no_text_there space a n none b low high = ap is_text_value (no_value space n a none b low high)

-- the address of a text that has some bytes
abbrev pub if_some : ℕ → ℕ → List ℕ
if_some p zero = []
if_some p (suc m) = p ∷ []

is_first : (space : Space) (p : ℕ) → (p ≡ 0) ⊎ (is_text_at space (p - 1) ≡ false) → (eqb p 0 || not (is_text_at space (p - 1))) ≡ true
is_first space p (inl none) = subst (λ q. (eqb q 0 || not (is_text_at space (q - 1))) ≡ true) (sym none) refl
is_first space p (inr other) = first_behind space p other

-- Bytes of text, and then addresses without one: one text begins among them, if there are bytes of text.
starts : (space : Space) (p m n : ℕ) → (p ≡ 0) ⊎ (is_text_at space (p - 1) ≡ false) → ((k : ℕ) → k < m → is_text_at space (p + k) ≡ true) → NoText space (p + m) n → filter (begins_text space) (range_with_len p (m + n)) ≡ if_some p m
starts space p zero n first text none = none_pass (begins_text space) (0 + n) p (λ b low high. no_text space b (none b (omega (arith, low)) (omega (arith, high))))
starts space p (suc m) n first text none =
    let here : p + 0 ≡ p = omega arith in
    let begins = text_begins space p (subst (λ b. is_text_at space b ≡ true) here (text 0 (omega arith))) (is_first space p first) in
    let range : range_with_len p (suc m + n) ≡ p ∷ range_with_len (p + 1) (m + n) = (let more : suc m + n ≡ suc (m + n) = omega arith in ap (range_with_len p) more) in
    ap (filter (begins_text space)) range
    ∙ cond-true (begins_text space p) _ _ begins
    ∙ ap (λ xs. p ∷ xs) (none_pass (begins_text space) (m + n) (p + 1) (λ b low high.
    ⊎_elim
    (λ within. text_before space b (omega (arith, low)) (let at : p + (b - 1 - p) ≡ b - 1 = omega (arith, low) in subst (λ c. is_text_at space c ≡ true) at (text (b - 1 - p) (omega (arith, low, within)))))
    (λ behind. no_text space b (none b (omega (arith, behind)) (omega (arith, high))))
    (cases_lt b (p + suc m))))

-- no text is none that is long enough
long_one : (space : Space) (least p m : ℕ) → 0 < least → ((k : ℕ) → k < m → is_text_at space (p + k) ≡ true) → is_text_at space (p + m) ≡ false → p + m < 2 ^ 64
    → filter (is_long least) (map (text_from space) (if_some p m)) ≡ filter (is_long least) ((p, m) ∷ [])
long_one space least p zero some text stop fits = elim (cases_Bool (leb least 0)) as (λ _. [] ≡ filter (is_long least) ((p, 0) ∷ [])) [
  | inl long ↦ absurd (let low = leb-true least 0 long in omega (arith, low, some))
  | inr short ↦ sym (cond-false (leb least 0) _ _ short)
]
long_one space least p (suc m) some text stop fits =
    ap (λ n. filter (is_long least) ((p, n) ∷ [])) (text_len_ends space p (2 ^ 64 - p) (suc m) (omega (arith, fits)) text (λ less. stop))

-- the texts before such addresses, and the one among them
pub texts_more : (space : Space) (least p m n : ℕ) → 0 < least → (p ≡ 0) ⊎ (is_text_at space (p - 1) ≡ false) → ((k : ℕ) → k < m → is_text_at space (p + k) ≡ true) → is_text_at space (p + m) ≡ false → NoText space (p + m) n → p + m < 2 ^ 64
    → texts_before space least p ++ filter (is_long least) ((p, m) ∷ []) ≡ texts_before space least (p + (m + n))
texts_more space least p m n some first text stop none fits =
    let before = filter (begins_text space) (range_with_len 0 p) in
    ap (λ x. texts_before space least p ++ x) (sym (long_one space least p m some text stop fits))
    ∙ sym (filter-append (is_long least) (map (text_from space) before) (map (text_from space) (if_some p m)))
    ∙ ap (filter (is_long least)) (sym (map-append (text_from space) before (if_some p m)))
    ∙ ap (λ x. filter (is_long least) (map (text_from space) (before ++ x))) (sym (starts space p m n first text none))
    ∙ ap (λ x. filter (is_long least) (map (text_from space) x)) (sym (filter_below (begins_text space) p (m + n)))

-- a slice up to the end
pub rest_is : (vs : List ℕ) (m : ℕ) → take (length vs - m) (drop m vs) ≡ drop m vs
rest_is vs m = take_all (length vs - m) (drop m vs) (let left = length-drop m vs in omega (arith, left))

pub some_of : (vs : List ℕ) (m n : ℕ) → 0 < length vs → m ≡ front_len true vs → n ≡ front_len false (drop m vs) → 0 < m + n
some_of vs m n some first others =
    let all = some_first vs some in
    let same : n ≡ front_len false (drop (front_len true vs) vs) = others ∙ ap (λ k. front_len false (drop k vs)) first in
    omega (arith, all, first, same)

-- the values of some addresses: first those of text, and then no text
pub texts_some : (space : Space) (vs : List ℕ) (a m n : ℕ) → m + n ≤ length vs → values_from space a (m + n) ≡ take (m + n) vs
    → (values_from space a (length (take m vs)) ≡ take m vs) × ((b : ℕ) → b ≡ a + length (take m vs) → AreOf false (take n (drop m vs)) → NoText space b n)
texts_some space vs a m n fits values =
    let cut = values_cut space vs a 0 m n (omega (arith, fits)) values in
    let zeros : 0 + m ≡ m = omega arith in
    let first = length-take m vs in
    let left = length-drop m vs in
    let second = length-take n (drop m vs) in
    let one : length (take m vs) ≡ m = omega (arith, first, fits) in
    let two : length (take n (drop m vs)) ≡ n = omega (arith, second, left, fits) in (
      ap (values_from space a) one ∙ cut.0,
      λ b at are.
          let there : a + m ≡ b = omega (arith, at, one) in
          subst (NoText space b) two
          (subst (λ c. NoText space c (length (take n (drop m vs)))) there (none_of space (take n (drop m vs)) (a + m) (ap (values_from space (a + m)) two ∙ cut.1 ∙ ap (λ p. part vs p n) zeros) are)),
    )

-- the values of the next of some addresses
pub values_next : (space : Space) (vs : List ℕ) (a at n b : ℕ) → at + n ≤ length vs → b ≡ a + at → values_from space a (length vs) ≡ vs → values_from space b n ≡ take n (drop at vs)
values_next space vs a at n b fits there values =
    let left = length vs - at in
    let whole : at + left ≡ length vs = omega (arith, fits) in
    let rest : n + (left - n) ≡ left = omega (arith, fits) in
    let all : values_from space a (at + left) ≡ take (at + left) vs = ap (values_from space a) whole ∙ values ∙ sym (take_all (at + left) vs (omega (arith, whole))) in
    let zeros : 0 + at ≡ at = omega arith in
    let behind : values_from space (a + at) left ≡ part vs at left = (values_cut space vs a 0 at left (omega (arith, whole)) all).1 ∙ ap (λ p. part vs p left) zeros in
    ap (λ c. values_from space c n) there
    ∙ (values_cut space vs (a + at) at n (left - n) (omega (arith, fits, rest)) (ap (values_from space (a + at)) rest ∙ behind ∙ ap (λ k. take k (drop at vs)) (sym rest))).0

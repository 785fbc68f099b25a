-- The values of addresses in a row, and where a needle occurs among them.
use Rattle.std.proofs.Common.{◌≡◌, ◌⊎◌, ◌<◌, ◌≤◌, ℕ, zero, suc, ◌+◌, Bool, false, List, [], ◌∷◌, ◌++◌, length, filter, take, drop, Option, None, Some, refl, sym, ap, ◌∙◌, arith, inl, inr}
use Rattle.std.proofs.lemmas.Bool.{cond-false, cases_lt}
use Rattle.std.proofs.lemmas.List.{length-append, length-take, length-drop, drop-drop}
use Rattle.std.proofs.Math.Seq.{take-append_seam, take-add, drop-append_seam}
use Rattle.std.proofs.lemmas.List.Elements.{filter-append, filter_map-append}
use Rattle.std.specs.List.{cons_option, filter_map, range_with_len}
use Rattle.elf_view.specs.Field.{part}
use Rattle.address_space.specs.Source.{Space, value_at}
use Rattle.address_space.specs.Occurrence.{occurs}
use Rattle.address_space.proofs.Finding.{occurs_wants}
use Rattle.windowed_search.specs.Places.{places}
use Rattle.windowed_search.specs.Runs.{IsRunOf, values_from}
use Rattle.windowed_search.proofs.Memory.{places_here}

-- numbers in a row
pub range_split : (m a n : ℕ) → range_with_len a (m + n) ≡ range_with_len a m ++ range_with_len (a + m) n
range_split zero a n =
    let all : 0 + n ≡ n = omega arith in
    let here : a ≡ a + 0 = omega arith in
    ap (range_with_len a) all ∙ ap (λ b. range_with_len b n) here
range_split (suc m) a n =
    let more : suc m + n ≡ suc (m + n) = omega arith in
    let next : a + 1 + m ≡ a + suc m = omega arith in
    ap (range_with_len a) more ∙ ap (λ t. a ∷ t) (range_split m (a + 1) n) ∙ ap (λ b. a ∷ (range_with_len (a + 1) m ++ range_with_len b n)) next

pub values_split : (space : Space) (a m n : ℕ) → values_from space a (m + n) ≡ values_from space a m ++ values_from space (a + m) n
unfolding values_from
values_split space a m n = ap (filter_map (value_at space)) (range_split m a n) ∙ filter_map-append (value_at space) (range_with_len a m) (range_with_len (a + m) n)

pub filter_split : (test : ℕ → Bool) (a m n : ℕ) → filter test (range_with_len a (m + n)) ≡ filter test (range_with_len a m) ++ filter test (range_with_len (a + m) n)
filter_split test a m n = ap (filter test) (range_split m a n) ∙ filter-append test (range_with_len a m) (range_with_len (a + m) n)

pub filter_below : (test : ℕ → Bool) (m n : ℕ) → filter test (range_with_len 0 (m + n)) ≡ filter test (range_with_len 0 m) ++ filter test (range_with_len m n)
filter_below test m n = let here : 0 + m ≡ m = omega arith in filter_split test 0 m n ∙ ap (λ a. filter test (range_with_len 0 m) ++ filter test (range_with_len a n)) here

-- none passes where no address does
pub none_pass : (test : ℕ → Bool) (n a : ℕ) → ((b : ℕ) → a ≤ b → b < a + n → test b ≡ false) → filter test (range_with_len a n) ≡ []
none_pass test zero a none = refl
none_pass test (suc n) a none = cond-false (test a) _ _ (none a (omega arith) (omega arith)) ∙ none_pass test n (a + 1) (λ b low high. none b (omega (arith, low)) (omega (arith, high)))

-- there are no more values than addresses
pub few : (space : Space) (n a : ℕ) → length (filter_map (value_at space) (range_with_len a n)) ≤ n
few space zero a = omega arith
few space (suc n) a =
    let rest = few space n (a + 1) in
    elim (value_at space a) as (λ o. length (cons_option o (filter_map (value_at space) (range_with_len (a + 1) n))) ≤ suc n) [ None ↦ omega (arith, rest) | Some x ↦ omega (arith, rest) ]

pub first_is : (o : Option ℕ) (ys xs : List ℕ) (x : ℕ) → length ys ≤ length xs → cons_option o ys ≡ x ∷ xs → (o ≡ Some x) × (ys ≡ xs)
first_is None ys xs x short is = absurd (let same = ap length is in omega (arith, same, short))
first_is (Some y) ys xs x short is = (cc, cc)

-- as many values as addresses, and then none: they are a run
pub run_is : (space : Space) (xs : List ℕ) (a : ℕ) → values_from space a (length xs) ≡ xs → value_at space (a + length xs) ≡ None → IsRunOf space a xs
unfolding values_from
run_is space [] a values none = let here : a + 0 ≡ a = omega arith in ap (value_at space) (sym here) ∙ none
run_is space (x ∷ xs) a values none =
    let parts = first_is (value_at space a) (filter_map (value_at space) (range_with_len (a + 1) (length xs))) xs x (few space (length xs) (a + 1)) values in
    let next : a + 1 + length xs ≡ a + suc (length xs) = omega arith in
    (parts.0, run_is space xs (a + 1) parts.1 (ap (value_at space) next ∙ none))

no_first : (o : Option ℕ) (ys : List ℕ) → cons_option o ys ≡ [] → (o ≡ None) × (ys ≡ [])
no_first None ys is = (refl, is)
no_first (Some x) ys is = cc

-- addresses without a value
pub no_value : (space : Space) (n a : ℕ) → values_from space a n ≡ [] → (b : ℕ) → a ≤ b → b < a + n → value_at space b ≡ None
unfolding values_from
no_value space zero a none b low high = absurd (omega (arith, low, high))
no_value space (suc n) a none b low high =
    let parts = no_first (value_at space a) (filter_map (value_at space) (range_with_len (a + 1) n)) none in
    elim (eq_or_more a b low) as (λ _. value_at space b ≡ None) [
      | inl same ↦ ap (value_at space) (sym same) ∙ parts.0
      | inr more ↦ no_value space n (a + 1) parts.1 b more (omega (arith, high))
    ]
  where
    eq_or_more : (a b : ℕ) → a ≤ b → (a ≡ b) ⊎ (a + 1 ≤ b)
    eq_or_more a b low = elim (cases_lt a b) as (λ _. (a ≡ b) ⊎ (a + 1 ≤ b)) [ inl less ↦ inr (omega (arith, less)) | inr more ↦ inl (omega (arith, more, low)) ]

pub none_occurs : (space : Space) (needle : List ℕ) (a n : ℕ) → 0 < length needle → values_from space a n ≡ [] → filter (occurs space needle) (range_with_len a n) ≡ []
none_occurs space needle a n some none = none_pass (occurs space needle) n a (λ b low high. occurs_wants space needle some b (no_value space n a none b low high))

-- the addresses up to the end of a run
pub run_told : (space : Space) (needle : List ℕ) (base : ℕ) (run : List ℕ) → values_from space base (length run) ≡ run → value_at space (base + length run) ≡ None
    → filter (occurs space needle) (range_with_len 0 base) ++ places needle base run ≡ filter (occurs space needle) (range_with_len 0 (base + length run))
run_told space needle base run values none =
    ap (λ x. filter (occurs space needle) (range_with_len 0 base) ++ x) (sym (places_here space needle run base (run_is space run base values none)))
    ∙ sym (filter_below (occurs space needle) base (length run))

values_few : (space : Space) (n a : ℕ) → length (values_from space a n) ≤ n
unfolding values_from
values_few space n a = few space n a

part_split : (b : List ℕ) (p m n : ℕ) → part b p (m + n) ≡ part b p m ++ part b (p + m) n
part_split b p m n = take-add m n (drop p b) ∙ ap (λ xs. take m (drop p b) ++ take n xs) (drop-drop m p b)

part_full : (b : List ℕ) (p n : ℕ) → p + n ≤ length b → length (part b p n) ≡ n
part_full b p n fits = (let l = length-take n (drop p b) in let r = length-drop p b in omega (arith, l, r, fits))

-- the values of addresses in a row that an image has: those of the first, and of the others
pub values_cut : (space : Space) (b : List ℕ) (a p m n : ℕ) → p + (m + n) ≤ length b → values_from space a (m + n) ≡ part b p (m + n)
    → (values_from space a m ≡ part b p m) × (values_from space (a + m) n ≡ part b (p + m) n)
values_cut space b a p m n fits is =
    let one = values_from space a m in
    let two = values_from space (a + m) n in
    let both : one ++ two ≡ part b p m ++ part b (p + m) n = sym (values_split space a m n) ∙ is ∙ part_split b p m n in
    let few_one = values_few space m a in
    let few_two = values_few space n (a + m) in
    let long = length-append one two in
    let parts = length-append (part b p m) (part b (p + m) n) in
    let first = part_full b p m (omega (arith, fits)) in
    let second = part_full b (p + m) n (omega (arith, fits)) in
    let same = ap length both in
    let all : length one ≡ m = omega (arith, few_one, few_two, long, parts, first, second, same) in (
      sym (take-append_seam one two) ∙ ap (λ k. take k (one ++ two)) (all ∙ sym first) ∙ ap (take (length (part b p m))) both ∙ take-append_seam (part b p m) (part b (p + m) n),
      sym (drop-append_seam one two) ∙ ap (λ k. drop k (one ++ two)) (all ∙ sym first) ∙ ap (drop (length (part b p m))) both ∙ drop-append_seam (part b p m) (part b (p + m) n),
    )

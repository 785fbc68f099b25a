-- Places in bytes that come in windows.
use Rattle.std.proofs.Common.{◌≡◌, ℕ, zero, suc, ◌+◌, ◌-◌, ◌<◌, ◌≤◌, ◌&&◌, eqb, cond, Bool, true, false, List, [], ◌∷◌, ◌++◌, length, drop, get_or, None, Some, refl, ap, sym, ◌∙◌, arith, inl, inr}
use Rattle.std.proofs.lemmas.Bool.{cases_lt, cases_Bool, cond-true, cond-false, and_parts, and_from, eqb-true, eq-eqb, false≢true}
use Rattle.std.proofs.lemmas.List.{drop_all, drop-drop, drop-append-le, get_or-drop, length-append, length-drop}
use Rattle.memchr.specs.Find.{FindsNeedle, OccursAt}
use Rattle.windowed_search.specs.Places.{begins, last_of, places}

-- what comes first is not in the bytes after it
begins_append : (ns xs ys : List ℕ) → length ns ≤ length xs → begins ns (xs ++ ys) ≡ begins ns xs
unfolding begins
begins_append [] xs ys fits = refl
begins_append (n ∷ ns) [] ys fits = absurd (omega (arith, fits))
begins_append (n ∷ ns) (x ∷ xs) ys fits = ap (λ t. eqb x n && t) (begins_append ns xs ys (omega (arith, fits)))

begins_short : (ns xs : List ℕ) → length xs < length ns → begins ns xs ≡ false
unfolding begins
begins_short [] xs short = absurd (omega (arith, short))
begins_short (n ∷ ns) [] short = refl
begins_short (n ∷ ns) (x ∷ xs) short = ap (λ t. eqb x n && t) (begins_short ns xs (omega (arith, short))) ∙ nothing (eqb x n)
  where
    nothing : (t : Bool) → (t && false) ≡ false
    nothing true = refl
    nothing false = refl

places_short : (needle : List ℕ) (a : ℕ) (xs : List ℕ) → length xs < length needle → places needle a xs ≡ []
unfolding places
places_short needle a [] short = refl
places_short needle a (x ∷ xs) short = cond-false (begins needle (x ∷ xs)) _ _ (begins_short needle (x ∷ xs) short) ∙ places_short needle (a + 1) xs (omega (arith, short))

pick : (t : Bool) (a : ℕ) (q r : List ℕ) → cond t (a ∷ (q ++ r)) (q ++ r) ≡ cond t (a ∷ q) q ++ r
pick true a q r = refl
pick false a q r = refl

-- the places in windows are those in all bytes
pub windows : (needle xs ys : List ℕ) (a : ℕ) → 0 < length needle → places needle a (xs ++ ys) ≡ places needle a xs ++ places needle (a + (length xs - (length needle - 1))) (drop (length xs - (length needle - 1)) xs ++ ys)
unfolding places
windows needle [] ys a some =
    let none : 0 - (length needle - 1) ≡ 0 = omega arith in
    let same : a + 0 ≡ a = omega arith in
    sym (ap (λ k. places needle (a + k) (drop k [] ++ ys)) none ∙ ap (λ b. places needle b ys) same)
windows needle (x ∷ xs) ys a some = elim (cases_lt (length xs) (length needle - 1)) as (λ _. places needle a ((x ∷ xs) ++ ys) ≡ places needle a (x ∷ xs) ++ places needle (a + (suc (length xs) - (length needle - 1))) (drop (suc (length xs) - (length needle - 1)) (x ∷ xs) ++ ys)) [
  | inl few ↦
      let none : suc (length xs) - (length needle - 1) ≡ 0 = omega (arith, few) in
      let same : a + 0 ≡ a = omega arith in
      sym (
      ap (λ p. p ++ places needle (a + (suc (length xs) - (length needle - 1))) (drop (suc (length xs) - (length needle - 1)) (x ∷ xs) ++ ys)) (places_short needle a (x ∷ xs) (omega (arith, few, some)))
      ∙ ap (λ k. places needle (a + k) (drop k (x ∷ xs) ++ ys)) none
      ∙ ap (λ b. places needle b ((x ∷ xs) ++ ys)) same
      )
  | inr many ↦
      let k = length xs - (length needle - 1) in
      let one : suc (length xs) - (length needle - 1) ≡ suc k = omega (arith, many) in
      let next : a + suc k ≡ a + 1 + k = omega arith in
      let rest = windows needle xs ys (a + 1) some in
      ap (λ t. cond t (a ∷ places needle (a + 1) (xs ++ ys)) (places needle (a + 1) (xs ++ ys))) (begins_append needle (x ∷ xs) ys (omega (arith, many, some)))
      ∙ ap (λ p. cond (begins needle (x ∷ xs)) (a ∷ p) p) rest
      ∙ pick (begins needle (x ∷ xs)) a (places needle (a + 1) xs) (places needle (a + 1 + k) (drop k xs ++ ys))
      ∙ ap (λ b. places needle a (x ∷ xs) ++ places needle b (drop k xs ++ ys)) (sym next)
      ∙ ap (λ j. places needle a (x ∷ xs) ++ places needle (a + j) (drop j (x ∷ xs) ++ ys)) (sym one)
]

-- what comes first is read byte by byte, and the other way round
begins_reads : (ns xs : List ℕ) → begins ns xs ≡ true → (length ns ≤ length xs) × ((j : ℕ) → j < length ns → get_or xs j 0 ≡ get_or ns j 0)
unfolding begins
begins_reads [] xs h = (omega arith, λ j l. absurd (omega (arith, l)))
begins_reads (n ∷ ns) [] h = absurd (false≢true h)
begins_reads (n ∷ ns) (x ∷ xs) h =
    let parts = and_parts (eqb x n) (begins ns xs) h in
    let rest = begins_reads ns xs parts.1 in
    (omega (arith, rest.0), at parts.0 rest.1)
  where
    at : eqb x n ≡ true → ((j : ℕ) → j < length ns → get_or xs j 0 ≡ get_or ns j 0) → (j : ℕ) → j < length (n ∷ ns) → get_or (x ∷ xs) j 0 ≡ get_or (n ∷ ns) j 0
    at same rest zero l = eqb-true x n same
    at same rest (suc j) l = rest j (omega (arith, l))

reads_begin : (ns xs : List ℕ) → length ns ≤ length xs → ((j : ℕ) → j < length ns → get_or xs j 0 ≡ get_or ns j 0) → begins ns xs ≡ true
unfolding begins
reads_begin [] xs fits h = refl
reads_begin (n ∷ ns) [] fits h = absurd (omega (arith, fits))
reads_begin (n ∷ ns) (x ∷ xs) fits h = and_from (eqb x n) (begins ns xs) (eq-eqb x n (h 0 (omega arith))) (reads_begin ns xs (omega (arith, fits)) (λ j l. h (suc j) (omega (arith, l))))

pub occurs_begins : (hay needle : List ℕ) (k : ℕ) → OccursAt hay needle k → begins needle (drop k hay) ≡ true
occurs_begins hay needle k o =
    let fits = o.fits in
    let long = length-drop k hay in
    reads_begin needle (drop k hay) (omega (arith, fits, long)) (λ j l. get_or-drop k hay j 0 ∙ o.reads j l)

pub not_begins : (hay needle : List ℕ) (k : ℕ) → k ≤ length hay → (OccursAt hay needle k → ⊥) → begins needle (drop k hay) ≡ false
not_begins hay needle k within none = elim (cases_Bool (begins needle (drop k hay))) as (λ _. begins needle (drop k hay) ≡ false) [
  | inl holds ↦
      let parts = begins_reads needle (drop k hay) holds in
      let long = length-drop k hay in
      absurd (none (record {
        fits = omega (arith, parts.0, long, within);
        reads = λ j l. sym (get_or-drop k hay j 0) ∙ parts.1 j l;
      }))
  | inr fails ↦ fails
]

-- m places where it does not
skip : (needle : List ℕ) (m a : ℕ) (xs : List ℕ) → m ≤ length xs → ((j : ℕ) → j < m → begins needle (drop j xs) ≡ false) → places needle a xs ≡ places needle (a + m) (drop m xs)
unfolding places
skip needle zero a xs fits none = let same : a ≡ a + 0 = omega arith in ap (λ b. places needle b xs) same
skip needle (suc m) a [] fits none = absurd (omega (arith, fits))
skip needle (suc m) a (x ∷ xs) fits none =
    let next : a + 1 + m ≡ a + suc m = omega arith in
    cond-false (begins needle (x ∷ xs)) _ _ (none 0 (omega arith))
    ∙ skip needle m (a + 1) xs (omega (arith, fits)) (λ j l. none (suc j) (omega (arith, l)))
    ∙ ap (λ b. places needle b (drop m xs)) next

here : (needle : List ℕ) (a : ℕ) (zs : List ℕ) → 0 < length needle → begins needle zs ≡ true → places needle a zs ≡ a ∷ places needle (a + 1) (drop 1 zs)
unfolding places
here needle a [] some h = absurd (false≢true (sym (begins_short needle [] some) ∙ h))
here needle a (x ∷ xs) some h = cond-true (begins needle (x ∷ xs)) _ _ h

-- the first place from `from` on, and none
module _ (hay needle : List ℕ) (from : ℕ) (within : from ≤ length hay) (some : 0 < length needle) where
  pub next_found : (k a : ℕ) → FindsNeedle (drop from hay) needle 0 (Some k) → places needle (a + from) (drop from hay) ≡ (a + (from + k)) ∷ places needle (a + (from + k + 1)) (drop (from + k + 1) hay)
  next_found k a found =
      let zs = drop from hay in
      let fits = found.1.fits in
      let one : a + from + k ≡ a + (from + k) = omega arith in
      let next : a + from + k + 1 ≡ a + (from + k + 1) = omega arith in
      let at : from + k + 1 ≡ from + (k + 1) = omega arith in
      skip needle k (a + from) zs (omega (arith, fits)) (λ j l. not_begins zs needle j (omega (arith, fits, l)) (found.0.before j (omega arith) l))
      ∙ here needle (a + from + k) (drop k zs) some (occurs_begins zs needle k found.1)
      ∙ ap (λ ys. (a + from + k) ∷ places needle (a + from + k + 1) ys) (drop-drop 1 k zs ∙ drop-drop (k + 1) from hay ∙ ap (λ j. drop j hay) (sym at))
      ∙ ap (λ b. b ∷ places needle (a + from + k + 1) (drop (from + k + 1) hay)) one
      ∙ ap (λ b. (a + (from + k)) ∷ places needle b (drop (from + k + 1) hay)) next

  pub place_within : (k : ℕ) → FindsNeedle (drop from hay) needle 0 (Some k) → from + k < length hay
  place_within k found = let fits = found.1.fits in let long = length-drop from hay in omega (arith, fits, long, some, within)

  pub none_found : (a : ℕ) → FindsNeedle (drop from hay) needle 0 None → places needle (a + from) (drop from hay) ≡ []
  unfolding places
  none_found a found =
      let zs = drop from hay in
      skip needle (length zs) (a + from) zs (omega arith) (λ j l. not_begins zs needle j (omega (arith, l)) (found j (omega arith) (omega (arith, l))))
      ∙ ap (λ ys. places needle (a + from + length zs) ys) (drop_all (length zs) zs (omega arith))

-- the tail of a tail
pub tail_of : (n : ℕ) (xs ys : List ℕ) → last_of n (last_of n xs ++ ys) ≡ last_of n (xs ++ ys)
tail_of n xs ys =
    let k = length xs - n in
    let all : last_of n xs ++ ys ≡ drop k (xs ++ ys) = sym (drop-append-le k xs ys (omega arith)) in
    let long = length-append xs ys in
    let left : length (last_of n xs ++ ys) ≡ length (xs ++ ys) - k = ap length all ∙ length-drop k (xs ++ ys) in
    let sum : k + (length (xs ++ ys) - k - n) ≡ length (xs ++ ys) - n = omega (arith, long) in
    ap (λ m. drop (m - n) (last_of n xs ++ ys)) left ∙ ap (drop (length (xs ++ ys) - k - n)) all ∙ drop-drop (length (xs ++ ys) - k - n) k (xs ++ ys) ∙ ap (λ m. drop m (xs ++ ys)) sum

pub first_of : (n : ℕ) (xs ys : List ℕ) → length xs - n + (length (last_of n xs ++ ys) - n) ≡ length (xs ++ ys) - n
first_of n xs ys =
    let a = length-append (last_of n xs) ys in
    let b = length-drop (length xs - n) xs in
    let c = length-append xs ys in
    omega (arith, a, b, c)

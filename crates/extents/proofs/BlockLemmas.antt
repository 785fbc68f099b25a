-- Blocks of runs: joined runs, the last run of a list, and the shortest list.
use Rattle.std.proofs.Common.{◌≡◌, ◌≢◌, ℕ, ◌+◌, ◌-◌, ◌<◌, ◌≤◌, List, [], ◌∷◌, ◌++◌, subst, length, get_or, set, take, drop, refl, sym, ap, ◌∙◌, append_assoc, arith, add-zero, zero, suc, Some}
use Rattle.std.proofs.lemmas.List.{take_more, take_all, drop_more, set_at, length-take-le, append-nil, set-get_or}
use Rattle.std.proofs.lemmas.List.FromFn.{length-range_with_len}
use Rattle.std.proofs.lemmas.Bool.{eq-eqb, ne_eqb}
use Rattle.std.specs.List.{range_with_len, slice_get}
use Rattle.extents.specs.declared.run_list.Run.{Run}
use Rattle.extents.specs.Runs.{IsRun, AreApart, AreApartFrom, blocks_of, run_blocks, runs_of, with_first}

-- a run cut in two
pub range_split : (a n m : ℕ) → range_with_len a n ++ range_with_len (a + n) m ≡ range_with_len a (n + m)
range_split a zero m = rw (add-zero a) (let e : zero + m ≡ m = omega arith in rw e refl)
range_split a (suc n) m =
    let e : a + suc n ≡ (a + 1) + n = omega arith in
    let f : suc n + m ≡ suc (n + m) = omega arith in
    rw (e, f) (ap (λ xs. a ∷ xs) (range_split (a + 1) n m))

pub blocks-append : (rs ss : List Run) → blocks_of (rs ++ ss) ≡ blocks_of rs ++ blocks_of ss
blocks-append [] ss = refl
blocks-append (r ∷ rs) ss = ap (λ xs. run_blocks r ++ xs) (blocks-append rs ss) ∙ sym (append_assoc (run_blocks r) (blocks_of rs) (blocks_of ss))

pub blocks_push : (rs : List Run) (r : Run) → blocks_of (rs ++ r ∷ []) ≡ blocks_of rs ++ run_blocks r
blocks_push rs r = blocks-append rs (r ∷ []) ∙ ap (λ xs. blocks_of rs ++ xs) (append-nil (run_blocks r))

-- a list split before its last element
pub split_last : {X : Type 0} → (xs : List X) (d : X) → 0 < length xs → xs ≡ take (length xs - 1) xs ++ get_or xs (length xs - 1) d ∷ []
split_last xs d some =
    let e : length xs ≡ (length xs - 1) + 1 = omega arith in
    let within : length xs - 1 < length xs = omega arith in
    sym (take_all (length xs) xs (omega arith)) ∙ ap (λ n. take n xs) e ∙ take_more xs (length xs - 1) d within

-- the last element of a list changed
pub set_last : {X : Type 0} → (xs : List X) (y : X) → 0 < length xs → set xs (length xs - 1) y ≡ take (length xs - 1) xs ++ y ∷ []
set_last xs y some =
    ap (λ zs. set zs (length xs - 1) y) (split_last xs y some) ∙ set_at (take (length xs - 1) xs) (get_or xs (length xs - 1) y) [] y (length xs - 1) (length-take-le (length xs - 1) xs (omega arith))

-- the last run grows by a run that begins where it ends
pub grown : (front : List Run) (start count more : ℕ)
    → blocks_of (front ++ record { start = start; count = count + more } ∷ [])
    ≡ blocks_of (front ++ record { start = start; count = count } ∷ []) ++ range_with_len (start + count) more
grown front start count more =
    blocks_push front _ ∙ ap (λ xs. blocks_of front ++ xs) (sym (range_split start count more))
    ∙ sym (append_assoc (blocks_of front) (range_with_len start count) (range_with_len (start + count) more))
    ∙ ap (λ xs. xs ++ range_with_len (start + count) more) (sym (blocks_push front (record { start = start; count = count })))

-- what lists of runs that are apart have at their end
pub last_from : (first : Run) (front : List Run) (last : Run) → AreApartFrom first (front ++ last ∷ []) → IsRun last
last_from first [] last h = h.2
last_from first (r ∷ front) last h = last_from r front last h.2

pub push_from : (first : Run) (front : List Run) (last r : Run) → AreApartFrom first (front ++ last ∷ []) → IsRun r → last.start + last.count ≢ r.start → AreApartFrom first ((front ++ last ∷ []) ++ r ∷ [])
push_from first [] last r h is_run apart = (h.0, h.1, (h.2, apart, is_run))
push_from first (s ∷ front) last r h is_run apart = (h.0, h.1, push_from s front last r h.2 is_run apart)

-- a run after the last one that it does not adjoin
pub apart_push : (front : List Run) (last r : Run) → AreApart (front ++ last ∷ []) → IsRun r → last.start + last.count ≢ r.start → AreApart ((front ++ last ∷ []) ++ r ∷ [])
apart_push [] last r h is_run apart = (h, apart, is_run)
apart_push (s ∷ front) last r h is_run apart = push_from s front last r h is_run apart

pub change_from : (first : Run) (front : List Run) (last r : Run) → AreApartFrom first (front ++ last ∷ []) → IsRun r → last.start ≡ r.start → AreApartFrom first (front ++ r ∷ [])
change_from first [] last r h is_run same = (h.0, (λ e. h.1 (e ∙ sym same)), is_run)
change_from first (s ∷ front) last r h is_run same = (h.0, h.1, change_from s front last r h.2 is_run same)

-- another last run that begins where the old one did
pub apart_change : (front : List Run) (last r : Run) → AreApart (front ++ last ∷ []) → IsRun r → last.start ≡ r.start → AreApart (front ++ r ∷ [])
apart_change [] last r h is_run same = is_run
apart_change (s ∷ front) last r h is_run same = change_from s front last r h is_run same

-- the first of these runs begins elsewhere
abbrev pub Elsewhere : ℕ → List Run → Type 0
Elsewhere end [] = Unit {0}
Elsewhere end (r ∷ rest) = end ≢ r.start

alone : (start : ℕ) (rest : List Run) → Elsewhere (start + 1) rest → with_first start rest ≡ record { start = start; count = 1 } ∷ rest
alone start [] apart = refl
alone start (r ∷ rest) apart = rw (ne_eqb (start + 1) r.start apart) refl

joins : (start n : ℕ) (rest : List Run) → with_first start (record { start = start + 1; count = suc n } ∷ rest) ≡ record { start = start; count = suc (suc n) } ∷ rest
joins start n rest =
    let e : suc n + 1 ≡ suc (suc n) = omega arith in
    rw (eq-eqb (start + 1) (start + 1) refl) (ap (λ k. record { start = start; count = k } ∷ rest) e)

-- the blocks of a run before others, which it does not adjoin
pub with_range : (start n : ℕ) (rest : List Run) (bs : List ℕ) → runs_of bs ≡ rest → Elsewhere (start + suc n) rest → runs_of (range_with_len start (suc n) ++ bs) ≡ record { start = start; count = suc n } ∷ rest
with_range start zero rest bs same apart =
    let e : start + 1 ≡ start + suc zero = omega arith in
    ap (with_first start) same ∙ alone start rest apart
with_range start (suc n) rest bs same apart =
    let e : start + suc (suc n) ≡ start + 1 + suc n = omega arith in
    ap (with_first start) (with_range (start + 1) n rest bs same (rw e at apart)) ∙ joins start n rest

some_range : (start count : ℕ) (rest : List Run) (bs : List ℕ) → 1 ≤ count → runs_of bs ≡ rest → Elsewhere (start + count) rest → runs_of (range_with_len start count ++ bs) ≡ record { start = start; count = count } ∷ rest
some_range start zero rest bs some same apart = absurd (omega arith)
some_range start (suc n) rest bs some same apart = with_range start n rest bs same apart

shortest_from : (r : Run) (rest : List Run) → AreApartFrom r rest → runs_of (run_blocks r ++ blocks_of rest) ≡ r ∷ rest
shortest_from r [] h = some_range r.start r.count [] [] h.some refl tt
shortest_from r (s ∷ rest) h = some_range r.start r.count (s ∷ rest) (blocks_of (s ∷ rest)) h.0.some (shortest_from s rest h.2) h.1

-- the shortest list of the blocks of runs that are apart has those runs
pub shortest : (rs : List Run) → AreApart rs → runs_of (blocks_of rs) ≡ rs
shortest [] h = refl
shortest (r ∷ rest) h = shortest_from r rest h

-- what is after a run
pub get-past : (xs ys : List ℕ) (n i : ℕ) → length xs ≡ n → n ≤ i → slice_get (xs ++ ys) i ≡ slice_get ys (i - n)
get-past [] ys n i e le = let z : i ≡ i - n = omega (arith, e) in ap (slice_get ys) z
get-past (x ∷ xs) ys n zero e le = absurd (omega (arith, e))
get-past (x ∷ xs) ys n (suc i) e le =
    let l : length xs ≡ n - 1 = omega (arith, e) in
    let z : i - (n - 1) ≡ suc i - n = omega (arith, e) in
    get-past xs ys (n - 1) i l (omega arith) ∙ ap (slice_get ys) z

get-within : (a n i : ℕ) (ys : List ℕ) → i < n → slice_get (range_with_len a n ++ ys) i ≡ Some (a + i)
get-within a zero i ys lt = absurd (omega arith)
get-within a (suc n) zero ys lt = let e : a ≡ a + zero = omega arith in ap (λ x. Some x) e
get-within a (suc n) (suc i) ys lt =
    let e : a + 1 + i ≡ a + suc i = omega arith in
    get-within (a + 1) n i ys (omega arith) ∙ ap (λ x. Some x) e

-- a place within the run at index k, and one past it, in the blocks from that run on
pub in_run : (rs : List Run) (k i : ℕ) (d : Run) → k < length rs → i < (get_or rs k d).count → slice_get (blocks_of (drop k rs)) i ≡ Some ((get_or rs k d).start + i)
in_run rs k i d within lt =
    ap (λ xs. slice_get (blocks_of xs) i) (drop_more rs k d within)
    ∙ get-within (get_or rs k d).start (get_or rs k d).count i (blocks_of (drop (k + 1) rs)) lt

pub past_run : (rs : List Run) (k i : ℕ) (d : Run) → k < length rs → (get_or rs k d).count ≤ i → slice_get (blocks_of (drop k rs)) i ≡ slice_get (blocks_of (drop (k + 1) rs)) (i - (get_or rs k d).count)
past_run rs k i d within le =
    ap (λ xs. slice_get (blocks_of xs) i) (drop_more rs k d within)
    ∙ get-past (run_blocks (get_or rs k d)) (blocks_of (drop (k + 1) rs)) (get_or rs k d).count i (length-range_with_len (get_or rs k d).start (get_or rs k d).count) le

-- each run of a list that is apart is one
run_from : (first : Run) (rest : List Run) (k : ℕ) (d : Run) → AreApartFrom first rest → k < suc (length rest) → IsRun (get_or (first ∷ rest) k d)
run_from first [] zero d h lt = h
run_from first [] (suc k) d h lt = absurd (omega arith)
run_from first (s ∷ rest) zero d h lt = h.0
run_from first (s ∷ rest) (suc k) d h lt = run_from s rest k d h.2 (omega arith)

pub each_is_run : (rs : List Run) (k : ℕ) (d : Run) → AreApart rs → k < length rs → IsRun (get_or rs k d)
each_is_run [] k d h lt = absurd (omega arith)
each_is_run (r ∷ rest) k d h lt = run_from r rest k d h lt

-- The last run of a list, at the place before its end.
module _ (rs : List Run) (n : ℕ) (len : n ≡ length rs) (last : Run) where
  -- it is a run
  pub last_run : AreApart rs → 0 < n → last ≡ get_or rs (n - 1) last → IsRun last
  last_run apart some is = let P : Run → Type 0 = IsRun in subst P (sym is) (each_is_run rs (n - 1) last apart (omega arith))

  split_at_last : 0 < n → last ≡ get_or rs (n - 1) last → rs ≡ take (n - 1) rs ++ last ∷ []
  split_at_last some is =
      let e : n - 1 ≡ length rs - 1 = omega arith in
      split_last rs last (omega arith) ∙ ap (λ k. take k rs ++ get_or rs k last ∷ []) (sym e) ∙ ap (λ r. take (n - 1) rs ++ r ∷ []) (sym is)

  set_at_last : 0 < n → (r : Run) → set rs (n - 1) r ≡ take (n - 1) rs ++ r ∷ []
  set_at_last some r =
      let e : n - 1 ≡ length rs - 1 = omega arith in
      ap (λ k. set rs k r) e ∙ set_last rs r (omega arith) ∙ ap (λ k. take k rs ++ r ∷ []) (sym e)

  -- it grows by a run that begins where it ends
  pub apart_grown : AreApart rs → 0 < n → last ≡ get_or rs (n - 1) last → (run : Run) → IsRun run → last.start + last.count ≡ run.start → AreApart (set rs (n - 1) (record { start = last.start; count = last.count + run.count }))
  apart_grown apart some is run is_run adjoins =
      let P : List Run → Type 0 = AreApart in
      subst P (sym (set_at_last some _))
      (apart_change (take (n - 1) rs) last (record { start = last.start; count = last.count + run.count }) (subst P (split_at_last some is) apart)
      (record { some = (let a = is_run.some in omega arith); within = (let a = is_run.within in omega arith) }) refl)

  pub blocks_grown : 0 < n → last ≡ get_or rs (n - 1) last → (run : Run) → last.start + last.count ≡ run.start → blocks_of (set rs (n - 1) (record { start = last.start; count = last.count + run.count })) ≡ blocks_of rs ++ run_blocks run
  blocks_grown some is run adjoins =
      ap blocks_of (set_at_last some _) ∙ grown (take (n - 1) rs) last.start last.count run.count
      ∙ ap (λ k. blocks_of (take (n - 1) rs ++ last ∷ []) ++ range_with_len k run.count) adjoins
      ∙ ap (λ xs. blocks_of xs ++ run_blocks run) (sym (split_at_last some is))

  -- a run after it that it does not adjoin
  pub apart_pushed : AreApart rs → 0 < n → last ≡ get_or rs (n - 1) last → (run : Run) → IsRun run → last.start + last.count ≢ run.start → AreApart (rs ++ run ∷ [])
  apart_pushed apart some is run is_run apart_from =
      let P : List Run → Type 0 = AreApart in
      let Q : List Run → Type 0 = λ xs. AreApart (xs ++ run ∷ []) in
      subst Q (sym (split_at_last some is)) (apart_push (take (n - 1) rs) last run (subst P (split_at_last some is) apart) is_run apart_from)

-- the first run of a list
pub apart_alone : (rs : List Run) (run : Run) → length rs ≡ 0 → IsRun run → AreApart (rs ++ run ∷ [])
apart_alone [] run none is_run = is_run
apart_alone (r ∷ rs) run none is_run = absurd (omega (arith, none))

-- the last of n elements written again as it is
pub set_same : (rs : List Run) (n : ℕ) (last : Run) → last ≡ get_or rs (n - 1) last → set rs (n - 1) last ≡ rs
set_same rs n last is = ap (set rs (n - 1)) is ∙ set-get_or rs (n - 1) last

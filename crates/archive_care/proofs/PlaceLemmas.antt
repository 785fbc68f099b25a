-- Cases with new places for their images.
use Rattle.std.proofs.Common.{◌≡◌, inl, inr, ℕ, zero, suc, ◌+◌, ◌<◌, ◌≤◌, Bool, ◌||◌, List, [], ◌∷◌, ◌++◌, length, map, take, get_or, refl, sym, ap, ◌∙◌, subst, arith}
use Rattle.std.specs.List.{All, range_with_len}
use Rattle.std.specs.Str.{bytes_eq}
use Rattle.std.proofs.Math.ListN.{get_or-map}
use Rattle.std.proofs.lemmas.Bool.{cases_lt}
use Rattle.std.proofs.lemmas.List.{append-nil, length-append, length-map, take_more, take-map}
use Rattle.std.proofs.lemmas.List.Elements.{All-nil, All-cons, All-head, All-tail, All-get_or}
use Rattle.std.proofs.lemmas.List.Folds.{length-flat_map-take}
use Rattle.std.proofs.lemmas.List.FromFn.{length-range_with_len}
use Rattle.journal_layout.specs.Case.{Case, case_of}
use Rattle.journal_layout.specs.Folding.{used_blocks, is_name_of}
use Rattle.journal_layout.specs.Live.{AreLive, AreLabelled, AreNamedApart, HasNoLabel, IsWhole, seq_of_case}
use Rattle.journal_layout.specs.LiveLaws.{used-append}
use Rattle.journal_layout.specs.Soundness.{Rise, blocks_for, uses}
use Rattle.journal_layout.specs.SpareLaws.{uses_within, run_holds}
use Rattle.journal_layout.specs.declared.entry.Entry.{Entry}
use Rattle.archive_care.specs.Placing.{AreWhole, moved, placed}

-- two runs of numbers, one right after the other
pub range_both : (a n m : ℕ) → range_with_len a n ++ range_with_len (a + n) m ≡ range_with_len a (n + m)
range_both a zero m =
    let e : a + zero ≡ a = omega arith in
    let none : m ≡ zero + m = omega arith in
    ap (λ (k : ℕ). range_with_len k m) e ∙ ap (range_with_len a) none
range_both a (suc n) m =
    let e : a + suc n ≡ a + 1 + n = omega arith in
    let one : suc (n + m) ≡ suc n + m = omega arith in
    ap (λ (k : ℕ). a ∷ (range_with_len (a + 1) n ++ range_with_len k m)) e
    ∙ ap (λ (l : List ℕ). a ∷ l) (range_both (a + 1) n m)
    ∙ ap (range_with_len a) one

-- a case more

pub used_push : (xs : List Case) (c : Case) → length (used_blocks (xs ++ c ∷ [])) ≡ length (used_blocks xs) + length c.blocks
used_push xs c =
    ap length (used-append xs (c ∷ []) ∙ ap (λ (l : List ℕ). used_blocks xs ++ l) (append-nil c.blocks)) ∙ length-append (used_blocks xs) c.blocks

pub placed_push : (at : ℕ) (xs : List Case) (c : Case)
    → placed at (xs ++ c ∷ []) ≡ placed at xs ++ moved (range_with_len (at + length (used_blocks xs)) (length c.blocks)) c ∷ []
placed_push at [] c = let e : at ≡ at + 0 = omega arith in ap (λ (k : ℕ). moved (range_with_len k (length c.blocks)) c ∷ []) e
placed_push at (d ∷ rest) c =
    let e : at + length d.blocks + length (used_blocks rest) ≡ at + length (used_blocks (d ∷ rest)) = omega (arith, length-append d.blocks (used_blocks rest)) in
    ap (λ (l : List Case). moved (range_with_len at (length d.blocks)) d ∷ l)
    (placed_push (at + length d.blocks) rest c
    ∙ ap (λ (k : ℕ). placed (at + length d.blocks) rest ++ moved (range_with_len k (length c.blocks)) c ∷ []) e)

-- the first entries, and one more
pub cases_more : (es : List Entry) (i : ℕ) (e : Entry) → i < length es → e ≡ get_or es i e
    → map case_of (take (i + 1) es) ≡ map case_of (take i es) ++ case_of e ∷ []
cases_more es i e below is =
    let low : i < length (map case_of es) = omega (arith, length-map es case_of) in
    let here : get_or (map case_of es) i (case_of e) ≡ case_of e = get_or-map case_of es i e ∙ ap case_of (sym is) in
    sym (take-map case_of (i + 1) es)
    ∙ take_more (map case_of es) i (case_of e) low
    ∙ ap (λ (c : Case). take i (map case_of es) ++ c ∷ []) here
    ∙ ap (λ (l : List Case). l ++ case_of e ∷ []) (take-map case_of i es)

-- they take no more blocks than all
pub used_within : (es : List Entry) (i : ℕ) (e : Entry) → i < length es → e ≡ get_or es i e
    → length (used_blocks (map case_of (take i es))) + length e.runs ≤ length (used_blocks (map case_of es))
used_within es i e below is =
    let low : i < length (map case_of es) = omega (arith, length-map es case_of) in
    let here : get_or (map case_of es) i (case_of e) ≡ case_of e = get_or-map case_of es i e ∙ ap case_of (sym is) in
    let same = ap (λ (c : Case). length c.blocks) here in
    let front = ap (λ (l : List Case). length (used_blocks l)) (take-map case_of i es) in
    omega (arith, length-flat_map-take (λ (c : Case). c.blocks) (map case_of es) i (case_of e) low, same, front)

-- an image has as many blocks as its bytes need
pub whole_at : (es : List Entry) (i : ℕ) (e : Entry) → AreWhole es → i < length es → e ≡ get_or es i e → length e.runs ≡ blocks_for e.length
whole_at es i e whole below is =
    let P : Entry → Type 0 = λ x. length x.runs ≡ blocks_for x.length in
    subst P (sym is) (All-get_or P es i e below whole)

-- one entry more has its place
pub placed_more : (es : List Entry) (i : ℕ) (e : Entry) (found new : List Case) (start count : ℕ) → AreWhole es → i < length es → e ≡ get_or es i e
    → found ≡ placed 0 (map case_of (take i es)) → start ≡ length (used_blocks (map case_of (take i es))) → count ≡ blocks_for e.length
    → new ≡ found ++ moved (range_with_len start count) (case_of e) ∷ []
    → (new ≡ placed 0 (map case_of (take (i + 1) es))) × (start + count ≡ length (used_blocks (map case_of (take (i + 1) es))))
placed_more es i e found new start count whole below is so_far starts counts added =
    let long : count ≡ length e.runs = counts ∙ sym (whole_at es i e whole below is) in
    let front = map case_of (take i es) in
    let more = cases_more es i e below is in
    let from_none : length (used_blocks front) ≡ 0 + length (used_blocks front) = omega arith in (
      added
          ∙ ap (λ (l : List Case). l ++ moved (range_with_len start count) (case_of e) ∷ []) so_far
          ∙ ap (λ (k : ℕ). placed 0 front ++ moved (range_with_len k count) (case_of e) ∷ []) starts
          ∙ ap (λ (k : ℕ). placed 0 front ++ moved (range_with_len (length (used_blocks front)) k) (case_of e) ∷ []) long
          ∙ ap (λ (k : ℕ). placed 0 front ++ moved (range_with_len k (length e.runs)) (case_of e) ∷ []) from_none
          ∙ sym (ap (placed 0) more ∙ placed_push 0 front (case_of e)),
      omega (arith, starts, long, ap (λ (l : List Case). length (used_blocks l)) more, used_push front (case_of e)),
    )

-- they have no room
pub none_left : (es : List Entry) (i : ℕ) (e : Entry) (start count limit : ℕ) → AreWhole es → i < length es → e ≡ get_or es i e
    → start ≡ length (used_blocks (map case_of (take i es))) → count ≡ blocks_for e.length → limit < start + count → limit < length (used_blocks (map case_of es))
none_left es i e start count limit whole below is starts counts over =
    omega (arith, starts, counts, over, whole_at es i e whole below is, used_within es i e below is)

-- what the cases tell stays

pub used_placed : (at : ℕ) (cs : List Case) → used_blocks (placed at cs) ≡ range_with_len at (length (used_blocks cs))
used_placed at [] = refl
used_placed at (c ∷ rest) =
    let e : length c.blocks + length (used_blocks rest) ≡ length (used_blocks (c ∷ rest)) = sym (length-append c.blocks (used_blocks rest)) in
    ap (λ (l : List ℕ). range_with_len at (length c.blocks) ++ l) (used_placed (at + length c.blocks) rest)
    ∙ range_both at (length c.blocks) (length (used_blocks rest))
    ∙ ap (range_with_len at) e

seqs_placed : (at : ℕ) (cs : List Case) → map seq_of_case (placed at cs) ≡ map seq_of_case cs
seqs_placed at [] = refl
seqs_placed at (c ∷ rest) = ap (λ (l : List ℕ). c.seq ∷ l) (seqs_placed (at + length c.blocks) rest)

names_placed : (at : ℕ) (cs : List Case) (name : List ℕ) → is_name_of (placed at cs) name ≡ is_name_of cs name
names_placed at [] name = refl
names_placed at (c ∷ rest) name = ap (λ (t : Bool). bytes_eq c.origin.name name || t) (names_placed (at + length c.blocks) rest name)

apart_placed : (at : ℕ) (cs : List Case) → AreNamedApart cs → AreNamedApart (placed at cs)
apart_placed at [] apart = tt
apart_placed at (c ∷ rest) apart =
    (names_placed (at + length c.blocks) rest c.origin.name ∙ apart.0, apart_placed (at + length c.blocks) rest apart.1)

whole_moved : (at next : ℕ) (c : Case) → IsWhole next c → IsWhole next (moved (range_with_len at (length c.blocks)) c)
whole_moved at next c whole = record {
  below = whole.below;
  origin = whole.origin;
  bytes = whole.bytes;
  enough = length-range_with_len at (length c.blocks) ∙ whole.enough;
  label = whole.label;
}

each_placed : (at next : ℕ) (cs : List Case) → All (IsWhole next) cs → All (IsWhole next) (placed at cs)
each_placed at next [] each = All-nil (IsWhole next)
each_placed at next (c ∷ rest) each =
    All-cons (IsWhole next) (moved (range_with_len at (length c.blocks)) c) (placed (at + length c.blocks) rest)
    (whole_moved at next c (All-head (IsWhole next) c rest each))
    (each_placed (at + length c.blocks) next rest (All-tail (IsWhole next) c rest each))

unlabelled_placed : (at : ℕ) (cs : List Case) → All HasNoLabel cs → All HasNoLabel (placed at cs)
unlabelled_placed at [] each = All-nil HasNoLabel
unlabelled_placed at (c ∷ rest) each =
    All-cons HasNoLabel (moved (range_with_len at (length c.blocks)) c) (placed (at + length c.blocks) rest)
    (All-head HasNoLabel c rest each)
    (unlabelled_placed (at + length c.blocks) rest (All-tail HasNoLabel c rest each))

-- one run has each of its blocks once
run_once : (k a n : ℕ) → uses k (range_with_len a n) ≤ 1
run_once k a n =
    elim (cases_lt 0 (uses k (range_with_len a n))) as (λ _. uses k (range_with_len a n) ≤ 1) [
      | inl some ↦ let h = run_holds k a n some in omega (arith, uses_within k a n h.0 h.1)
      | inr none ↦ omega (arith, none)
    ]

-- The cases go together in their new places, if these are there.
pub live_placed : (limit limit' next : ℕ) (cs : List Case) → AreLive limit cs next → length (used_blocks cs) ≤ limit' → AreLive limit' (placed 0 cs) next
live_placed limit limit' next cs live room = record {
  some_next = live.some_next;
  numbers = live.numbers;
  each = each_placed 0 next cs live.each;
  rise = subst (Rise 0) (sym (seqs_placed 0 cs)) live.rise;
  once = λ k. subst (λ (l : List ℕ). uses k l ≤ 1) (sym (used_placed 0 cs)) (run_once k 0 (length (used_blocks cs)));
  within = λ k some.
      let h = run_holds k 0 (length (used_blocks cs)) (subst (λ (l : List ℕ). 0 < uses k l) (used_placed 0 cs) some) in
      omega (arith, h.1, room);
  different = apart_placed 0 cs live.different;
}

pub labelled_placed : (version : ℕ) (cs : List Case) → AreLabelled version cs → AreLabelled version (placed 0 cs)
labelled_placed version cs labelled = λ other. unlabelled_placed 0 cs (labelled other)

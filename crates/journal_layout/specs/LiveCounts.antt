-- Laws of live cases in counts: how often a block is used, how many cases have a name, and how many blocks are used.
use Rattle.std.proofs.Common.{◌≡◌, inl, inr, ℕ, ◌+◌, ◌^◌, ◌<◌, ◌≤◌, Bool, true, false, not, ◌||◌, nat_eq, nat_lt, List, [], ◌∷◌, ◌++◌, length, map, refl, sym, ap, append_assoc, ◌∙◌, subst, arith, cond}
use Rattle.std.proofs.lemmas.Bool.{ne_eqb, eq-eqb, cases_eq, cases_lt, cases_Bool, lt-ltb, le-ltb, or_parts, both_ways}
use Rattle.std.proofs.lemmas.List.{length-append}
use Rattle.std.proofs.lemmas.List.Concat.{length-flat_map}
use Rattle.std.proofs.lemmas.List.Elements.{recursion_from_All}
use Rattle.std.proofs.lemmas.List.Sums.{sum_by-cons, sum_by_push}
use Rattle.std.proofs.lemmas.List.Filters.{sum_by-filter_both}
use Rattle.std.proofs.lemmas.Map.Steps.{length-le_from_distinct_below}
use Rattle.std.proofs.lemmas.Slice.Eq.{bytes_eq-Decides}
use Rattle.std.specs.List.{All, AllByRecursion, Contains, IsDistinct, count_by, sum_by, filter, flat_map}
use Rattle.std.specs.Str.{bytes_eq}
use Rattle.extents.specs.declared.run_list.Run.{Run}
use Rattle.extents.specs.Runs.{run_blocks, blocks_of, runs_of}
use Rattle.journal_layout.specs.Case.{Case}
use Rattle.journal_layout.specs.Folding.{is_among, dropped, pinned_as, with_pin, labelled_as, with_label, used_blocks, is_name_of}
use Rattle.journal_layout.specs.Soundness.{AreSpare, Rise, uses, blocks_for}
use Rattle.journal_layout.specs.SpareLaws.{uses-append, not_among}
use Rattle.journal_layout.specs.ChainLaws.{blocks_back}
use Rattle.journal_layout.specs.Live.{seq_of_case, IsWhole, AreNamedApart, AreLive, gone}
use Rattle.journal_layout.specs.LiveFinds.{uses_among}
use Rattle.journal_layout.specs.LiveLaws.{used-append, KeepsFacts, flag_keeps, label_keeps}

-- how often a block is used

-- the word of the crate extents and this crate's say the same
pub uses_same : (k : ℕ) (blocks : List ℕ) → count_by (λ (b : ℕ). nat_eq b k) blocks ≡ uses k blocks
uses_same k [] = refl
uses_same k (b ∷ rest) = sum_by-cons (λ (x : ℕ). cond (nat_eq x k) 1 0) b rest ∙ ap (λ (n : ℕ). cond (nat_eq b k) 1 0 + n) (uses_same k rest)

-- case by case, and in the joined list of the cases' blocks
pub case_uses_same : (k : ℕ) (cases : List Case) → sum_by (λ (c : Case). count_by (λ (b : ℕ). nat_eq b k) c.blocks) cases ≡ uses k (used_blocks cases)
case_uses_same k [] = refl
case_uses_same k (c ∷ rest) =
    sum_by-cons (λ (d : Case). count_by (λ (b : ℕ). nat_eq b k) d.blocks) c rest
    ∙ ap (λ (n : ℕ). n + sum_by (λ (d : Case). count_by (λ (b : ℕ). nat_eq b k) d.blocks) rest) (uses_same k c.blocks)
    ∙ ap (λ (n : ℕ). uses k c.blocks + n) (case_uses_same k rest)
    ∙ sym (uses-append k c.blocks (used_blocks rest))

-- the runs of blocks hold the same blocks
pub runs_uses : (k : ℕ) (blocks : List ℕ) → count_by (λ (b : ℕ). nat_eq b k) (blocks_of (runs_of blocks)) ≡ uses k blocks
runs_uses k blocks = ap (λ (l : List ℕ). count_by (λ (b : ℕ). nat_eq b k) l) (blocks_back blocks) ∙ uses_same k blocks

pub blocks_of-append : (rs ss : List Run) → blocks_of (rs ++ ss) ≡ blocks_of rs ++ blocks_of ss
blocks_of-append [] ss = refl
blocks_of-append (r ∷ rest) ss =
    ap (λ (l : List ℕ). run_blocks r ++ l) (blocks_of-append rest ss) ∙ sym (append_assoc (run_blocks r) (blocks_of rest) (blocks_of ss))

-- the runs of all cases, one case after another, hold the blocks of the cases
pub used_runs : (cases : List Case) → blocks_of (flat_map (λ (c : Case). runs_of c.blocks) cases) ≡ used_blocks cases
used_runs [] = refl
used_runs (c ∷ rest) =
    blocks_of-append (runs_of c.blocks) (flat_map (λ (d : Case). runs_of d.blocks) rest)
    ∙ ap (λ (l : List ℕ). l ++ blocks_of (flat_map (λ (d : Case). runs_of d.blocks) rest)) (blocks_back c.blocks)
    ∙ ap (λ (l : List ℕ). c.blocks ++ l) (used_runs rest)

-- how many cases have a name

count_here : (c : Case) (rest : List Case) (name : List ℕ) (t : Bool) → bytes_eq c.origin.name name ≡ t
    → count_by (λ (d : Case). bytes_eq d.origin.name name) (c ∷ rest) ≡ cond t 1 0 + count_by (λ (d : Case). bytes_eq d.origin.name name) rest
count_here c rest name t e =
    sum_by-cons (λ (d : Case). cond (bytes_eq d.origin.name name) 1 0) c rest ∙ ap (λ (s : Bool). cond s 1 0 + count_by (λ (d : Case). bytes_eq d.origin.name name) rest) e

-- no case has the name if and only if the test says so
pub none_named : (cases : List Case) (name : List ℕ) → is_name_of cases name ≡ false → count_by (λ (c : Case). bytes_eq c.origin.name name) cases ≡ 0
none_named [] name none = refl
none_named (c ∷ rest) name none =
    let h = or_parts (bytes_eq c.origin.name name) (is_name_of rest name) none in
    sum_by-cons (λ (d : Case). cond (bytes_eq d.origin.name name) 1 0) c rest ∙ rw h.0 (omega (arith, none_named rest name h.1))

pub not_named : (cases : List Case) (name : List ℕ) → count_by (λ (c : Case). bytes_eq c.origin.name name) cases ≡ 0 → is_name_of cases name ≡ false
not_named [] name none = refl
not_named (c ∷ rest) name none =
    by (bytes_eq c.origin.name name) (sym (sum_by-cons (λ (d : Case). cond (bytes_eq d.origin.name name) 1 0) c rest) ∙ none) (not_named rest name)
  where
    by : (t : Bool) → cond t 1 0 + count_by (λ (d : Case). bytes_eq d.origin.name name) rest ≡ 0
        → (count_by (λ (d : Case). bytes_eq d.origin.name name) rest ≡ 0 → is_name_of rest name ≡ false) → (t || is_name_of rest name) ≡ false
    by true e low = absurd (omega arith)
    by false e low = low (omega arith)

-- no two cases have one name if and only if at most one case has each name
pub named_once : (cases : List Case) (name : List ℕ) → AreNamedApart cases → count_by (λ (c : Case). bytes_eq c.origin.name name) cases ≤ 1
named_once [] name apart = omega arith
named_once (c ∷ rest) name apart =
    elim (cases_Bool (bytes_eq c.origin.name name)) as (λ _. count_by (λ (d : Case). bytes_eq d.origin.name name) (c ∷ rest) ≤ 1) [
      | inl same ↦
          let is : c.origin.name ≡ name = (bytes_eq-Decides c.origin.name name).0 same in
          let none = none_named rest name (subst (λ (n : List ℕ). is_name_of rest n ≡ false) is apart.0) in
          let whole : count_by (λ (d : Case). bytes_eq d.origin.name name) (c ∷ rest) ≡ 1 + count_by (λ (d : Case). bytes_eq d.origin.name name) rest = count_here c rest name true same in
          omega arith
      | inr other ↦
          let whole : count_by (λ (d : Case). bytes_eq d.origin.name name) (c ∷ rest) ≡ 0 + count_by (λ (d : Case). bytes_eq d.origin.name name) rest = count_here c rest name false other in
          omega (arith, named_once rest name apart.1)
    ]

pub named_apart : (cases : List Case) → ((name : List ℕ) → count_by (λ (c : Case). bytes_eq c.origin.name name) cases ≤ 1) → AreNamedApart cases
named_apart [] once = tt
named_apart (c ∷ rest) once = (
  not_named rest c.origin.name (behind (count_here c rest c.origin.name true ((bytes_eq-Decides c.origin.name c.origin.name).1 refl)) (once c.origin.name)),
  named_apart rest (λ name. fewer name (count_here c rest name (bytes_eq c.origin.name name) refl) (once name)),
)
  where
    behind : count_by (λ (d : Case). bytes_eq d.origin.name c.origin.name) (c ∷ rest) ≡ 1 + count_by (λ (d : Case). bytes_eq d.origin.name c.origin.name) rest
        → count_by (λ (d : Case). bytes_eq d.origin.name c.origin.name) (c ∷ rest) ≤ 1 → count_by (λ (d : Case). bytes_eq d.origin.name c.origin.name) rest ≡ 0
    behind whole most = omega arith

    fewer : (name : List ℕ) → count_by (λ (d : Case). bytes_eq d.origin.name name) (c ∷ rest) ≡ cond (bytes_eq c.origin.name name) 1 0 + count_by (λ (d : Case). bytes_eq d.origin.name name) rest
        → count_by (λ (d : Case). bytes_eq d.origin.name name) (c ∷ rest) ≤ 1 → count_by (λ (d : Case). bytes_eq d.origin.name name) rest ≤ 1
    fewer name whole most = omega arith

-- once a case more is stored
pub named_stored : (cases : List Case) (c : Case) (name : List ℕ)
    → count_by (λ (d : Case). bytes_eq d.origin.name name) (cases ++ c ∷ []) ≡ count_by (λ (d : Case). bytes_eq d.origin.name name) cases + cond (bytes_eq c.origin.name name) 1 0
named_stored cases c name = sum_by_push (λ (d : Case). cond (bytes_eq d.origin.name name) 1 0) cases c

-- among the cases that are left and those that are dropped
pub named_dropped : (seqs : List ℕ) (cases : List Case) (name : List ℕ)
    → count_by (λ (c : Case). bytes_eq c.origin.name name) (dropped seqs cases) + count_by (λ (c : Case). bytes_eq c.origin.name name) (gone seqs cases)
    ≡ count_by (λ (c : Case). bytes_eq c.origin.name name) cases
named_dropped seqs cases name =
    omega (arith, sum_by-filter_both (λ (c : Case). is_among seqs c.seq) (λ (c : Case). not (is_among seqs c.seq)) (λ _. refl) (λ (c : Case). cond (bytes_eq c.origin.name name) 1 0) cases)

-- once the cases have changed one by one
named_changed : (change : Case → Case) → KeepsFacts change → (cases : List Case) (name : List ℕ)
    → count_by (λ (c : Case). bytes_eq c.origin.name name) (map change cases) ≡ count_by (λ (c : Case). bytes_eq c.origin.name name) cases
named_changed change keeps [] name = refl
named_changed change keeps (c ∷ rest) name =
    count_here (change c) (map change rest) name (bytes_eq c.origin.name name) (ap (λ (l : List ℕ). bytes_eq l name) (keeps.name c))
    ∙ ap (λ (n : ℕ). cond (bytes_eq c.origin.name name) 1 0 + n) (named_changed change keeps rest name)
    ∙ sym (count_here c rest name (bytes_eq c.origin.name name) refl)

-- once a flag or a label has changed
pub named_pinned : (seq : ℕ) (flag : Bool) (cases : List Case) (name : List ℕ)
    → count_by (λ (c : Case). bytes_eq c.origin.name name) (with_pin seq flag cases) ≡ count_by (λ (c : Case). bytes_eq c.origin.name name) cases
named_pinned seq flag cases name = named_changed (pinned_as seq flag) (flag_keeps seq flag) cases name

pub named_labelled : (seq : ℕ) (text : List ℕ) (cases : List Case) (name : List ℕ)
    → count_by (λ (c : Case). bytes_eq c.origin.name name) (with_label seq text cases) ≡ count_by (λ (c : Case). bytes_eq c.origin.name name) cases
named_labelled seq text cases name = named_changed (labelled_as seq text) (label_keeps seq text) cases name

-- live cases

-- no block is used twice, and none after the data blocks at all
pub live_apart : (limit : ℕ) (cases : List Case) (next : ℕ) → AreLive limit cases next
    → (k : ℕ) → sum_by (λ (c : Case). count_by (λ (b : ℕ). nat_eq b k) c.blocks) cases ≤ cond (nat_lt k limit) 1 0
live_apart limit cases next live k =
    let same = case_uses_same k cases in
    elim (cases_lt k limit) as (λ _. sum_by (λ (c : Case). count_by (λ (b : ℕ). nat_eq b k) c.blocks) cases ≤ cond (nat_lt k limit) 1 0) [
      | inl low ↦ rw (lt-ltb k limit low) (omega (arith, live.once k))
      | inr high ↦ rw (le-ltb k limit high) (elim (cases_eq (uses k (used_blocks cases)) 0) as (λ _. sum_by (λ (c : Case). count_by (λ (b : ℕ). nat_eq b k) c.blocks) cases ≤ 0) [
        | inl none ↦ omega (arith, none)
        | inr some ↦ absurd (omega (arith, live.within k (omega (arith, some))))
      ])
    ]

-- the runs of a live case hold data blocks, each of them once
pub live_runs : (limit : ℕ) (cases : List Case) (next : ℕ) (c : Case) → AreLive limit cases next → Contains cases c
    → (k : ℕ) → count_by (λ (b : ℕ). nat_eq b k) (blocks_of (runs_of c.blocks)) ≤ cond (nat_lt k limit) 1 0
live_runs limit cases next c live among k =
    omega (arith, live_apart limit cases next live k, case_uses_same k cases, runs_uses k c.blocks, uses_among k cases c among)

-- no two cases have this name
pub live_named : (limit : ℕ) (cases : List Case) (next : ℕ) → AreLive limit cases next → (name : List ℕ) → count_by (λ (c : Case). bytes_eq c.origin.name name) cases ≤ 1
live_named limit cases next live name = named_once cases name live.different

-- cases are live if the counts say so
pub live_from_counts : (limit : ℕ) (cases : List Case) (next : ℕ) → 1 ≤ next → next ≤ 2 ^ 32 → All (IsWhole next) cases → Rise 0 (map seq_of_case cases)
    → ((k : ℕ) → sum_by (λ (c : Case). count_by (λ (b : ℕ). nat_eq b k) c.blocks) cases ≤ cond (nat_lt k limit) 1 0)
    → ((name : List ℕ) → count_by (λ (c : Case). bytes_eq c.origin.name name) cases ≤ 1) → AreLive limit cases next
live_from_counts limit cases next some numbers each rise apart named = record {
  some_next = some;
  numbers = numbers;
  each = each;
  rise = rise;
  once = λ k. most k (nat_lt k limit) (case_uses_same k cases) (apart k);
  within = λ k used. lies k (case_uses_same k cases) (apart k) used;
  different = named_apart cases named;
}
  where
    most : (k : ℕ) (t : Bool) → sum_by (λ (c : Case). count_by (λ (b : ℕ). nat_eq b k) c.blocks) cases ≡ uses k (used_blocks cases)
        → sum_by (λ (c : Case). count_by (λ (b : ℕ). nat_eq b k) c.blocks) cases ≤ cond t 1 0 → uses k (used_blocks cases) ≤ 1
    most k true same h = omega arith
    most k false same h = omega arith

    lies : (k : ℕ) → sum_by (λ (c : Case). count_by (λ (b : ℕ). nat_eq b k) c.blocks) cases ≡ uses k (used_blocks cases)
        → sum_by (λ (c : Case). count_by (λ (b : ℕ). nat_eq b k) c.blocks) cases ≤ cond (nat_lt k limit) 1 0 → 0 < uses k (used_blocks cases) → k < limit
    lies k same h used =
        elim (cases_lt k limit) as (λ _. k < limit) [
          | inl low ↦ low
          | inr high ↦ absurd (omega (arith, rw (le-ltb k limit high) at h))
        ]

-- blocks are spare if they are data blocks, each once, and no case's
pub spare_from_counts : (limit : ℕ) (cases : List Case) (blocks : List ℕ)
    → ((k : ℕ) → sum_by (λ (c : Case). count_by (λ (b : ℕ). nat_eq b k) c.blocks) cases + count_by (λ (b : ℕ). nat_eq b k) blocks ≤ cond (nat_lt k limit) 1 0)
    → AreSpare limit (used_blocks cases) blocks
spare_from_counts limit cases blocks apart k some = by (case_uses_same k cases) (uses_same k blocks) (apart k)
  where
    by : sum_by (λ (c : Case). count_by (λ (b : ℕ). nat_eq b k) c.blocks) cases ≡ uses k (used_blocks cases)
        → count_by (λ (b : ℕ). nat_eq b k) blocks ≡ uses k blocks
        → sum_by (λ (c : Case). count_by (λ (b : ℕ). nat_eq b k) c.blocks) cases + count_by (λ (b : ℕ). nat_eq b k) blocks ≤ cond (nat_lt k limit) 1 0
        → (k < limit) × (uses k blocks ≡ 1) × (uses k (used_blocks cases) ≡ 0)
    by all new h =
        elim (cases_lt k limit) as (λ _. (k < limit) × (uses k blocks ≡ 1) × (uses k (used_blocks cases) ≡ 0)) [
          | inl low ↦
              let most : sum_by (λ (c : Case). count_by (λ (b : ℕ). nat_eq b k) c.blocks) cases + count_by (λ (b : ℕ). nat_eq b k) blocks ≤ 1 = rw (lt-ltb k limit low) at h in
              (low, omega arith, omega arith)
          | inr high ↦ absurd (omega (arith, rw (le-ltb k limit high) at h))
        ]

-- and spare blocks together with live cases use each data block once at most
pub spare_counts : (limit : ℕ) (cases : List Case) (next : ℕ) (blocks : List ℕ) → AreLive limit cases next → AreSpare limit (used_blocks cases) blocks
    → (k : ℕ) → sum_by (λ (c : Case). count_by (λ (b : ℕ). nat_eq b k) c.blocks) cases + count_by (λ (b : ℕ). nat_eq b k) blocks ≤ cond (nat_lt k limit) 1 0
spare_counts limit cases next blocks live spare k =
    elim (cases_eq (uses k blocks) 0) as (λ _. sum_by (λ (c : Case). count_by (λ (b : ℕ). nat_eq b k) c.blocks) cases + count_by (λ (b : ℕ). nat_eq b k) blocks ≤ cond (nat_lt k limit) 1 0) [
      | inl none ↦ omega (arith, live_apart limit cases next live k, uses_same k blocks, none)
      | inr some ↦
          let h = spare k (omega (arith, some)) in
          rw (lt-ltb k limit h.0) (omega (arith, case_uses_same k cases, uses_same k blocks, h.1, h.2))
    ]

-- there are fewer live cases than numbers so far
rise_long : (last next : ℕ) (cases : List Case) → last < next → Rise last (map seq_of_case cases) → AllByRecursion (IsWhole next) cases → last + length cases < next
rise_long last next [] low rise each = omega arith
rise_long last next (c ∷ rest) low rise each = omega (arith, rise.0, rise_long c.seq next rest each.0.below rise.1 each.1)

pub live_few : (limit : ℕ) (cases : List Case) (next : ℕ) → AreLive limit cases next → length cases < next
live_few limit cases next live = omega (arith, rise_long 0 next cases live.some_next live.rise (recursion_from_All (IsWhole next) cases live.each))

-- how many blocks are used

-- case by case
pub used_length : (cases : List Case) → length (used_blocks cases) ≡ sum_by (λ (c : Case). length c.blocks) cases
used_length cases = length-flat_map (λ (c : Case). c.blocks) cases

-- once a case more is stored
pub used_stored : (cases : List Case) (c : Case) → length (used_blocks (cases ++ c ∷ [])) ≡ length (used_blocks cases) + length c.blocks
used_stored cases c =
    ap length (used-append cases (c ∷ [])) ∙ omega (arith, length-append (used_blocks cases) (used_blocks (c ∷ [])), length-append c.blocks [])

-- by the cases that pass a test and by those that don't
pub used_parted : (test : Case → Bool) (cases : List Case)
    → length (used_blocks (filter (λ (c : Case). not (test c)) cases)) + length (used_blocks (filter test cases)) ≡ length (used_blocks cases)
used_parted test [] = refl
used_parted test (c ∷ rest) = by (test c) (used_parted test rest)
  where
    by : (t : Bool) → length (used_blocks (filter (λ (d : Case). not (test d)) rest)) + length (used_blocks (filter test rest)) ≡ length (used_blocks rest)
        → length (used_blocks (cond (not t) (c ∷ filter (λ (d : Case). not (test d)) rest) (filter (λ (d : Case). not (test d)) rest)))
        + length (used_blocks (cond t (c ∷ filter test rest) (filter test rest))) ≡ length (used_blocks (c ∷ rest))
    by true low = omega (arith, length-append c.blocks (used_blocks (filter test rest)), length-append c.blocks (used_blocks rest))
    by false low = omega (arith, length-append c.blocks (used_blocks (filter (λ (d : Case). not (test d)) rest)), length-append c.blocks (used_blocks rest))

-- once cases are dropped
pub used_dropped : (seqs : List ℕ) (cases : List Case) → length (used_blocks (dropped seqs cases)) + length (used_blocks (gone seqs cases)) ≡ length (used_blocks cases)
used_dropped seqs cases = used_parted (λ (c : Case). is_among seqs c.seq) cases

-- live cases use the blocks that their bytes need
pub used_enough : (limit : ℕ) (cases : List Case) (next : ℕ) → AreLive limit cases next → length (used_blocks cases) ≡ sum_by (λ (c : Case). blocks_for c.len) cases
used_enough limit cases next live = by cases (recursion_from_All (IsWhole next) cases live.each)
  where
    by : (l : List Case) → AllByRecursion (IsWhole next) l → length (used_blocks l) ≡ sum_by (λ (c : Case). blocks_for c.len) l
    by [] each = refl
    by (c ∷ rest) each =
        length-append c.blocks (used_blocks rest)
        ∙ ap (λ (n : ℕ). n + length (used_blocks rest)) each.0.enough
        ∙ ap (λ (n : ℕ). blocks_for c.len + n) (by rest each.1)
        ∙ sym (sum_by-cons (λ (d : Case). blocks_for d.len) c rest)

-- a list that has no number twice
distinct_head : (b : ℕ) (rest : List ℕ) → uses b rest ≡ 0 → AllByRecursion (λ (y : ℕ). nat_eq b y ≡ false) rest
distinct_head b [] none = tt
distinct_head b (y ∷ rest) none =
    elim (cases_eq y b) as (λ _. AllByRecursion (λ (z : ℕ). nat_eq b z ≡ false) (y ∷ rest)) [
      | inl same ↦ absurd (clash (rw (eq-eqb y b same) at none))
      | inr other ↦ (ne_eqb b y (λ e. other (sym e)), distinct_head b rest (behind (rw (ne_eqb y b other) at none)))
    ]
  where
    clash : 1 + uses b rest ≡ 0 → ⊥
    clash h = omega arith

    behind : 0 + uses b rest ≡ 0 → uses b rest ≡ 0
    behind h = omega arith

distinct_once : (xs : List ℕ) → ((k : ℕ) → uses k xs ≤ 1) → IsDistinct nat_eq xs
unfolding IsDistinct
distinct_once [] once = tt
distinct_once (b ∷ rest) once = (distinct_head b rest (none (once b)), distinct_once rest (λ k. fewer k (once k)))
  where
    none : uses b (b ∷ rest) ≤ 1 → uses b rest ≡ 0
    none h = let most = rw (eq-eqb b b refl) at h in omega arith

    fewer : (k : ℕ) → uses k (b ∷ rest) ≤ 1 → uses k rest ≤ 1
    fewer k h = omega arith

used_among : (xs : List ℕ) (k : ℕ) → is_among xs k ≡ true → 0 < uses k xs
used_among xs k e =
    elim (cases_eq (uses k xs) 0) as (λ _. 0 < uses k xs) [
      | inl none ↦ absurd (both_ways (is_among xs k) (not_among xs k none) e)
      | inr some ↦ omega (arith, some)
    ]

-- live cases use no more blocks than there are
pub used_fit : (limit : ℕ) (cases : List Case) (next : ℕ) → AreLive limit cases next → length (used_blocks cases) ≤ limit
used_fit limit cases next live =
    length-le_from_distinct_below (used_blocks cases) limit (distinct_once (used_blocks cases) live.once)
    (λ k e. live.within k (used_among (used_blocks cases) k e))

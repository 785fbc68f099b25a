-- Laws of the cases that a journal's records say: invariants that always hold of them, and their consequences.
use Rattle.std.proofs.Common.{◌≡◌, inl, inr, ℕ, ◌+◌, ◌-◌, ◌^◌, ◌<◌, ◌≤◌, Bool, true, false, not, ◌||◌, ◌==◌, List, [], ◌∷◌, ◌++◌, map, drop, refl, sym, ap, ◌∙◌, subst, arith, cond}
use Rattle.std.proofs.lemmas.Bool.{cases_eq, cond_both, or_parts, or_from, both_ways, false_from_ne_true}
use Rattle.std.proofs.lemmas.List.Concat.{flat_map-append}
use Rattle.std.proofs.lemmas.List.Elements.{All-nil, All-push, All-filter, All-weaker, All-from_recursion, recursion_from_All}
use Rattle.std.proofs.lemmas.Slice.Eq.{bytes_eq-Decides}
use Rattle.std.specs.List.{AllByRecursion, filter}
use Rattle.std.specs.Str.{bytes_eq}
use Rattle.journal_layout.specs.Case.{Case}
use Rattle.journal_layout.specs.Record.{Record, Store, Drop, Pin, Next, Label, record_size}
use Rattle.journal_layout.specs.Folding.{Folded, nothing_yet, is_among, dropped, pinned_as, with_pin, labelled_as, with_label, after, replayed, used_blocks, is_name_of}
use Rattle.journal_layout.specs.Soundness.{IsSound, IsStorable, IsLabel, Rise, uses}
use Rattle.journal_layout.specs.SpareLaws.{uses-append}
use Rattle.journal_layout.specs.Standing.{Standing, folded_of}
use Rattle.journal_layout.specs.Stands.{StandInRow, AreRead, Stands, records_area}
use Rattle.journal_layout.specs.Live.{seq_of_case, IsWhole, AreNamedApart, AreLive, gone}

-- numbers that rise

pub rise_lower : (low last : ℕ) (seqs : List ℕ) → low ≤ last → Rise last seqs → Rise low seqs
rise_lower low last [] under rise = tt
rise_lower low last (seq ∷ rest) under rise = (omega (arith, rise.0), rise.1)

-- a case after them
rise_push : (last : ℕ) (cases : List Case) (c : Case) → Rise last (map seq_of_case cases) → last < c.seq
    → AllByRecursion (λ (d : Case). d.seq < c.seq) cases → Rise last (map seq_of_case (cases ++ c ∷ []))
rise_push last [] c rise above each = (above, tt)
rise_push last (d ∷ rest) c rise above each = (rise.0, rise_push d.seq rest c rise.1 each.0 each.1)

-- some of them
pub rise_kept : (test : Case → Bool) (last : ℕ) (cases : List Case) → Rise last (map seq_of_case cases) → Rise last (map seq_of_case (filter test cases))
rise_kept test last [] rise = tt
rise_kept test last (c ∷ rest) rise =
    cond_both (test c) (c ∷ filter test rest) (filter test rest) (λ (l : List Case). Rise last (map seq_of_case l))
    (λ _. (rise.0, rise_kept test c.seq rest rise.1))
    (λ _. rise_kept test last rest (rise_lower last c.seq (map seq_of_case rest) (omega (arith, rise.0)) rise.1))

-- names

-- names are the same in both orders
pub name_sym : (x y : List ℕ) → bytes_eq x y ≡ false → bytes_eq y x ≡ false
name_sym x y e = false_from_ne_true (bytes_eq y x) (λ t. both_ways (bytes_eq x y) e ((bytes_eq-Decides x y).1 (sym ((bytes_eq-Decides y x).0 t))))

-- a name that none of these cases has is still unused after one more case of another name
pub name_push : (cases : List Case) (c : Case) (name : List ℕ) → is_name_of cases name ≡ false → bytes_eq c.origin.name name ≡ false → is_name_of (cases ++ c ∷ []) name ≡ false
name_push [] c name none other = or_from (bytes_eq c.origin.name name) false other refl
name_push (d ∷ rest) c name none other =
    let h = or_parts (bytes_eq d.origin.name name) (is_name_of rest name) none in
    or_from (bytes_eq d.origin.name name) (is_name_of (rest ++ c ∷ []) name) h.0 (name_push rest c name h.1 other)

-- a name that none of these cases has is the name of none of some of them
pub name_kept : (test : Case → Bool) (cases : List Case) (name : List ℕ) → is_name_of cases name ≡ false → is_name_of (filter test cases) name ≡ false
name_kept test [] name none = refl
name_kept test (d ∷ rest) name none =
    let h = or_parts (bytes_eq d.origin.name name) (is_name_of rest name) none in
    let low : is_name_of (filter test rest) name ≡ false = name_kept test rest name h.1 in
    cond_both (test d) (d ∷ filter test rest) (filter test rest) (λ (l : List Case). is_name_of l name ≡ false)
    (λ _. or_from (bytes_eq d.origin.name name) (is_name_of (filter test rest) name) h.0 low) (λ _. low)

apart_push : (cases : List Case) (c : Case) → AreNamedApart cases → is_name_of cases c.origin.name ≡ false → AreNamedApart (cases ++ c ∷ [])
apart_push [] c apart new = (refl, tt)
apart_push (d ∷ rest) c apart new =
    let h = or_parts (bytes_eq d.origin.name c.origin.name) (is_name_of rest c.origin.name) new in
    (name_push rest c d.origin.name apart.0 (name_sym d.origin.name c.origin.name h.0), apart_push rest c apart.1 h.1)

apart_kept : (test : Case → Bool) (cases : List Case) → AreNamedApart cases → AreNamedApart (filter test cases)
apart_kept test [] apart = tt
apart_kept test (d ∷ rest) apart =
    let low = apart_kept test rest apart.1 in
    cond_both (test d) (d ∷ filter test rest) (filter test rest) AreNamedApart (λ _. (name_kept test rest d.origin.name apart.0, low)) (λ _. low)

-- blocks

-- the blocks of two lists of cases
pub used-append : (xs ys : List Case) → used_blocks (xs ++ ys) ≡ used_blocks xs ++ used_blocks ys
used-append xs ys = flat_map-append (λ (c : Case). c.blocks) xs ys

-- how often a block is used once a case more is there
pub uses_stored : (k : ℕ) (cases : List Case) (c : Case) → uses k (used_blocks (cases ++ c ∷ [])) ≡ uses k (used_blocks cases) + uses k c.blocks
uses_stored k [] c = omega (arith, uses-append k c.blocks [])
uses_stored k (d ∷ rest) c =
    omega (arith, uses-append k d.blocks (used_blocks (rest ++ c ∷ [])), uses-append k d.blocks (used_blocks rest), uses_stored k rest c)

-- a block is used by the cases that pass a test and by those that don't
pub uses_parted : (k : ℕ) (test : Case → Bool) (cases : List Case)
    → uses k (used_blocks (filter (λ (c : Case). not (test c)) cases)) + uses k (used_blocks (filter test cases)) ≡ uses k (used_blocks cases)
uses_parted k test [] = refl
uses_parted k test (c ∷ rest) = by (test c) (uses_parted k test rest)
  where
    by : (t : Bool) → uses k (used_blocks (filter (λ (d : Case). not (test d)) rest)) + uses k (used_blocks (filter test rest)) ≡ uses k (used_blocks rest)
        → uses k (used_blocks (cond (not t) (c ∷ filter (λ (d : Case). not (test d)) rest) (filter (λ (d : Case). not (test d)) rest)))
        + uses k (used_blocks (cond t (c ∷ filter test rest) (filter test rest))) ≡ uses k (used_blocks (c ∷ rest))
    by true low = omega (arith, uses-append k c.blocks (used_blocks (filter test rest)), uses-append k c.blocks (used_blocks rest))
    by false low = omega (arith, uses-append k c.blocks (used_blocks (filter (λ (d : Case). not (test d)) rest)), uses-append k c.blocks (used_blocks rest))

-- a block is used by the cases that are left and by those that are dropped
pub uses_dropped : (k : ℕ) (seqs : List ℕ) (cases : List Case) → uses k (used_blocks (dropped seqs cases)) + uses k (used_blocks (gone seqs cases)) ≡ uses k (used_blocks cases)
uses_dropped k seqs cases = uses_parted k (λ (c : Case). is_among seqs c.seq) cases

-- a change of the cases, one by one

-- it leaves each case's number, name and blocks
pub record KeepsFacts (change : Case → Case) : Type 0 where
  pub seq : (c : Case) → (change c).seq ≡ c.seq
  pub name : (c : Case) → (change c).origin.name ≡ c.origin.name
  pub blocks : (c : Case) → (change c).blocks ≡ c.blocks

module _ (change : Case → Case) (keeps : KeepsFacts change) where
  -- the numbers, the blocks and the names of the cases stay
  pub numbers_changed : (cases : List Case) → map seq_of_case (map change cases) ≡ map seq_of_case cases
  numbers_changed [] = refl
  numbers_changed (c ∷ rest) =
      ap (λ (n : ℕ). n ∷ map seq_of_case (map change rest)) (keeps.seq c) ∙ ap (λ (l : List ℕ). c.seq ∷ l) (numbers_changed rest)

  pub used_changed : (cases : List Case) → used_blocks (map change cases) ≡ used_blocks cases
  used_changed [] = refl
  used_changed (c ∷ rest) =
      ap (λ (l : List ℕ). l ++ used_blocks (map change rest)) (keeps.blocks c) ∙ ap (λ (l : List ℕ). c.blocks ++ l) (used_changed rest)

  pub names_changed : (cases : List Case) (name : List ℕ) → is_name_of (map change cases) name ≡ is_name_of cases name
  names_changed [] name = refl
  names_changed (c ∷ rest) name =
      ap (λ (l : List ℕ). bytes_eq l name || is_name_of (map change rest) name) (keeps.name c)
      ∙ ap (λ (t : Bool). bytes_eq c.origin.name name || t) (names_changed rest name)

  apart_changed : (cases : List Case) → AreNamedApart cases → AreNamedApart (map change cases)
  apart_changed [] apart = tt
  apart_changed (c ∷ rest) apart = (
    ap (is_name_of (map change rest)) (keeps.name c) ∙ names_changed rest c.origin.name ∙ apart.0,
    apart_changed rest apart.1,
  )

-- a flag, or a label, of one case
pub flag_keeps : (seq : ℕ) (flag : Bool) → KeepsFacts (pinned_as seq flag)
flag_keeps seq flag = record {
  seq = λ c. elim (c.seq == seq) as (λ t. (cond t (record c { pinned = flag }) c).seq ≡ c.seq) [ true ↦ refl | false ↦ refl ];
  name = λ c. elim (c.seq == seq) as (λ t. (cond t (record c { pinned = flag }) c).origin.name ≡ c.origin.name) [ true ↦ refl | false ↦ refl ];
  blocks = λ c. elim (c.seq == seq) as (λ t. (cond t (record c { pinned = flag }) c).blocks ≡ c.blocks) [ true ↦ refl | false ↦ refl ];
}

pub label_keeps : (seq : ℕ) (text : List ℕ) → KeepsFacts (labelled_as seq text)
label_keeps seq text = record {
  seq = λ c. elim (c.seq == seq) as (λ t. (cond t (record c { label = text }) c).seq ≡ c.seq) [ true ↦ refl | false ↦ refl ];
  name = λ c. elim (c.seq == seq) as (λ t. (cond t (record c { label = text }) c).origin.name ≡ c.origin.name) [ true ↦ refl | false ↦ refl ];
  blocks = λ c. elim (c.seq == seq) as (λ t. (cond t (record c { label = text }) c).blocks ≡ c.blocks) [ true ↦ refl | false ↦ refl ];
}

whole_pinned : (seq : ℕ) (flag : Bool) (next : ℕ) (c : Case) → IsWhole next c → IsWhole next (pinned_as seq flag c)
whole_pinned seq flag next c whole =
    cond_both (c.seq == seq) (record c { pinned = flag }) c (IsWhole next)
    (λ _. record {
      below = whole.below;
      origin = whole.origin;
      bytes = whole.bytes;
      enough = whole.enough;
      label = whole.label;
    })
    (λ _. whole)

whole_labelled : (seq : ℕ) (text : List ℕ) (next : ℕ) (c : Case) → IsLabel text → IsWhole next c → IsWhole next (labelled_as seq text c)
whole_labelled seq text next c label whole =
    cond_both (c.seq == seq) (record c { label = text }) c (IsWhole next)
    (λ _. record {
      below = whole.below;
      origin = whole.origin;
      bytes = whole.bytes;
      enough = whole.enough;
      label = label;
    })
    (λ _. whole)

-- the facts that stay if a flag or a label of the cases changes
pub used_pinned : (seq : ℕ) (flag : Bool) (cases : List Case) → used_blocks (with_pin seq flag cases) ≡ used_blocks cases
used_pinned seq flag cases = used_changed (pinned_as seq flag) (flag_keeps seq flag) cases

pub used_labelled : (seq : ℕ) (text : List ℕ) (cases : List Case) → used_blocks (with_label seq text cases) ≡ used_blocks cases
used_labelled seq text cases = used_changed (labelled_as seq text) (label_keeps seq text) cases

pub names_pinned : (seq : ℕ) (flag : Bool) (cases : List Case) (name : List ℕ) → is_name_of (with_pin seq flag cases) name ≡ is_name_of cases name
names_pinned seq flag cases name = names_changed (pinned_as seq flag) (flag_keeps seq flag) cases name

pub names_labelled : (seq : ℕ) (text : List ℕ) (cases : List Case) (name : List ℕ) → is_name_of (with_label seq text cases) name ≡ is_name_of cases name
names_labelled seq text cases name = names_changed (labelled_as seq text) (label_keeps seq text) cases name

-- the invariants

whole_later : (next later : ℕ) (c : Case) → next ≤ later → IsWhole next c → IsWhole later c
whole_later next later c high whole = record {
  below = (let below = whole.below in omega arith);
  origin = whole.origin;
  bytes = whole.bytes;
  enough = whole.enough;
  label = whole.label;
}

empty_label : IsLabel []
empty_label = record { short = omega arith; bytes = λ k. omega arith }

-- it holds of no case
pub live_none : (limit : ℕ) → AreLive limit [] 1
live_none limit = record {
  some_next = omega arith;
  numbers = omega arith;
  each = All-nil (IsWhole 1);
  rise = tt;
  once = λ k. omega arith;
  within = λ k some. absurd (omega arith);
  different = tt;
}

-- it holds once a case more is stored
pub live_stored : (limit : ℕ) (cases : List Case) (next : ℕ) (c : Case) → AreLive limit cases next → next ≤ c.seq → c.seq < 2 ^ 32 → IsStorable limit cases c
    → AreLive limit (cases ++ c ∷ []) (c.seq + 1)
live_stored limit cases next c live from high storable =
    let some = live.some_next in
    let each = recursion_from_All (IsWhole next) cases live.each in
    record {
      some_next = omega arith;
      numbers = omega arith;
      each =
          All-push (IsWhole (c.seq + 1)) cases c (All-weaker (IsWhole next) (IsWhole (c.seq + 1)) (λ d. whole_later next (c.seq + 1) d (omega arith)) cases live.each) (record {
            below = omega arith;
            origin = storable.origin;
            bytes = storable.bytes;
            enough = storable.enough;
            label = subst IsLabel (sym storable.no_label) empty_label;
          });
      rise = rise_push 0 cases c live.rise (omega arith) (lower cases each);
      once = λ k. at_most k (uses_stored k cases c);
      within = λ k some. lies k (uses_stored k cases c) some;
      different = apart_push cases c live.different storable.new_name;
    }
  where
    lower : (l : List Case) → AllByRecursion (IsWhole next) l → AllByRecursion (λ (d : Case). d.seq < c.seq) l
    lower [] each = tt
    lower (d ∷ rest) each = (let below = each.0.below in omega arith, lower rest each.1)

    at_most : (k : ℕ) → uses k (used_blocks (cases ++ c ∷ [])) ≡ uses k (used_blocks cases) + uses k c.blocks → uses k (used_blocks (cases ++ c ∷ [])) ≤ 1
    at_most k both =
        elim (cases_eq (uses k c.blocks) 0) as (λ _. uses k (used_blocks (cases ++ c ∷ [])) ≤ 1) [
          | inl none ↦ omega (arith, live.once k, none)
          | inr some ↦ let h = storable.spare k (omega (arith, some)) in omega (arith, h.1, h.2)
        ]

    lies : (k : ℕ) → uses k (used_blocks (cases ++ c ∷ [])) ≡ uses k (used_blocks cases) + uses k c.blocks → 0 < uses k (used_blocks (cases ++ c ∷ [])) → k < limit
    lies k both some =
        elim (cases_eq (uses k c.blocks) 0) as (λ _. k < limit) [
          | inl none ↦ live.within k (omega (arith, none))
          | inr new ↦ (storable.spare k (omega (arith, new))).0
        ]

-- it holds of some of the cases, in the same order
pub live_kept : (limit : ℕ) (cases : List Case) (next : ℕ) (test : Case → Bool) → AreLive limit cases next → AreLive limit (filter test cases) next
live_kept limit cases next test live = record {
  some_next = live.some_next;
  numbers = live.numbers;
  each = All-filter test (IsWhole next) cases live.each;
  rise = rise_kept test 0 cases live.rise;
  once = λ k. omega (arith, uses_parted k test cases, live.once k);
  within = λ k some. live.within k (omega (arith, uses_parted k test cases));
  different = apart_kept test cases live.different;
}

-- it holds once cases are dropped
pub live_dropped : (limit : ℕ) (cases : List Case) (next : ℕ) (seqs : List ℕ) → AreLive limit cases next → AreLive limit (dropped seqs cases) next
live_dropped limit cases next seqs live = live_kept limit cases next (λ (c : Case). not (is_among seqs c.seq)) live

-- it holds once the cases have changed one by one
live_changed : (limit : ℕ) (cases : List Case) (next : ℕ) (change : Case → Case) → KeepsFacts change → ((c : Case) → IsWhole next c → IsWhole next (change c))
    → AreLive limit cases next → AreLive limit (map change cases) next
live_changed limit cases next change keeps whole live = record {
  some_next = live.some_next;
  numbers = live.numbers;
  each = All-from_recursion (IsWhole next) (map change cases) (all cases (recursion_from_All (IsWhole next) cases live.each));
  rise = subst (Rise 0) (sym (numbers_changed change keeps cases)) live.rise;
  once = λ k. omega (arith, live.once k, ap (uses k) (used_changed change keeps cases));
  within = λ k some. live.within k (omega (arith, ap (uses k) (used_changed change keeps cases)));
  different = apart_changed change keeps cases live.different;
}
  where
    all : (l : List Case) → AllByRecursion (IsWhole next) l → AllByRecursion (IsWhole next) (map change l)
    all [] each = tt
    all (c ∷ rest) each = (whole c each.0, all rest each.1)

-- it holds once a flag has changed
pub live_pinned : (limit : ℕ) (cases : List Case) (next seq : ℕ) (flag : Bool) → AreLive limit cases next → AreLive limit (with_pin seq flag cases) next
live_pinned limit cases next seq flag live = live_changed limit cases next (pinned_as seq flag) (flag_keeps seq flag) (whole_pinned seq flag next) live

-- it holds once a label has changed
pub live_labelled : (limit : ℕ) (cases : List Case) (next seq : ℕ) (text : List ℕ) → AreLive limit cases next → IsLabel text
    → AreLive limit (with_label seq text cases) next
live_labelled limit cases next seq text live label =
    live_changed limit cases next (labelled_as seq text) (label_keeps seq text) (λ c. whole_labelled seq text next c label) live

-- it holds of a later next number
pub live_later : (limit : ℕ) (cases : List Case) (next later : ℕ) → AreLive limit cases next → next ≤ later → later ≤ 2 ^ 32 → AreLive limit cases later
live_later limit cases next later live from high = record {
  some_next = (let some = live.some_next in omega arith);
  numbers = high;
  each = All-weaker (IsWhole next) (IsWhole later) (λ d. whole_later next later d from) cases live.each;
  rise = live.rise;
  once = live.once;
  within = live.within;
  different = live.different;
}

-- it holds after a sound record, if it held before it
pub live_after : (limit : ℕ) (f : Folded) (r : Record) → AreLive limit f.cases f.next → IsSound limit f r → AreLive limit (after r f).cases (after r f).next
live_after limit f (Store c) live sound = live_stored limit f.cases f.next c live sound.0 sound.1 sound.2
live_after limit f (Drop seqs) live sound = live_dropped limit f.cases f.next seqs live
live_after limit f (Pin seq flag) live sound = live_pinned limit f.cases f.next seq flag live
live_after limit f (Next n) live sound = live_later limit f.cases f.next n live sound.0 sound.1
live_after limit f (Label seq text) live sound = live_labelled limit f.cases f.next seq text live sound.3

-- it holds after a row of records
pub live_row : (limit : ℕ) (bytes : List ℕ) (f : Folded) (rs : List Record) → AreLive limit f.cases f.next → StandInRow limit bytes f rs
    → AreLive limit (replayed rs f).cases (replayed rs f).next
live_row limit bytes f [] live row = live
live_row limit bytes f (r ∷ rest) live row = live_row limit (drop (record_size r) bytes) (after r f) rest (live_after limit f r live row.0.sound) row.1

-- it holds of the cases that bytes give
pub live_read : (limit version : ℕ) (bytes : List ℕ) (said : Folded) (n : ℕ) → AreRead limit bytes (nothing_yet version) said n → AreLive limit said.cases said.next
live_read limit version bytes said n read =
    subst (λ (g : Folded). AreLive limit g.cases g.next) read.folded (live_row limit bytes (nothing_yet version) read.records (live_none limit) read.row)

-- it holds of the cases that a disk encodes
pub stands_live : (b : List ℕ) (s : Standing) → Stands b s → AreLive s.shape.data_blocks s.cases s.next
stands_live b s stands = live_read s.shape.data_blocks s.version (records_area b s.shape s.half) (folded_of s) (s.used - 32) stands.records

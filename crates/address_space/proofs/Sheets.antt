-- What is found in a sheet of rows is what a scan of all items finds.
use Rattle.std.proofs.Common.{◌≡◌, ◌<◌, ◌≤◌, ℕ, zero, suc, ◌+◌, ◌-◌, ◌^◌, eqb, leb, ltb, cond, true, false, List, [], ◌∷◌, map, length, get_or, Option, None, Some, All, Contains, min, refl, sym, ap, subst, ◌∙◌, arith, inl, inr}
use Rattle.std.specs.List.{AllAdjacentBelow, AllByRecursion, slice_get}
use Rattle.std.specs.List.Sorted.{IsNonDecreasingBy}
use Rattle.std.specs.Option.{option_map}
use Rattle.std.proofs.lemmas.Bool.{lt-leb, le-ltb, and_left, and_right, ltb-true, ltb-false, eqb-true, cases_lt, cases_Bool, cond-true, cond-false, ne_eqb}
use Rattle.std.proofs.lemmas.List.{get_or_default}
use Rattle.std.proofs.lemmas.Option.{same_Some, none-some}
use Rattle.elf_view.specs.Header.{SegmentView}
use Rattle.elf_view.specs.Sound.{IsLoadable}
use Rattle.core_notes.specs.FileWords.{file_view}
use Rattle.core_notes.specs.declared.file_list.FileMap.{FileMap}
use Rattle.address_space.specs.Source.{first_from, span}
use Rattle.address_space.specs.Disjoint.{Extent, is_within, segment_extent, file_extent, takes_addresses, taking_from}
use Rattle.address_space.specs.Pieces.{same_number}
use Rattle.address_space.specs.Ranges.{IsAlike}
use Rattle.address_space.specs.ScanWords.{past_of, row_view}
use Rattle.address_space.specs.Layers.{has_row, holder, IsHeld, IsNumbered, IsLaid, IsEnded, IsSheet}
use Rattle.address_space.specs.declared.row.Row.{Row}
use Rattle.address_space.proofs.Layering.{holder_yes, holder_past}
use Rattle.address_space.proofs.Rows.{element}
use Rattle.address_space.proofs.Scanning.{first_no}
use Rattle.address_space.proofs.Extents.{extent_at, first_extent, numbered}

-- each row begins at the lower end or above it
laid_start : (rows : List Row) (low high k : ℕ) (d : Row) → IsLaid low high rows → k < length rows → low ≤ (get_or rows k d).start
laid_start [] low high k d laid h = absurd (omega (arith, h))
laid_start (r ∷ rows) low high zero d laid h = laid.0
laid_start (r ∷ rows) low high (suc k) d laid h =
    let from = laid.0 in
    let rest = laid_start rows (past_of r) high k d laid.2 (omega (arith, h)) in
    omega arith

laid_order : (rows : List Row) (low high i j : ℕ) (d : Row) → IsLaid low high rows → i ≤ j → j < length rows → (get_or rows i d).start ≤ (get_or rows j d).start
laid_order [] low high i j d laid le h = absurd (omega (arith, h))
laid_order (r ∷ rows) low high zero zero d laid le h = omega arith
laid_order (r ∷ rows) low high zero (suc j) d laid le h =
    let rest = laid_start rows (past_of r) high j d laid.2 (omega (arith, h)) in
    omega arith
laid_order (r ∷ rows) low high (suc i) zero d laid le h = absurd (omega (arith, le))
laid_order (r ∷ rows) low high (suc i) (suc j) d laid le h = laid_order rows (past_of r) high i j d laid.2 (omega (arith, le)) (omega (arith, h))

laid_next : (rows : List Row) (low high k : ℕ) (d : Row) → IsLaid low high rows → suc k < length rows → past_of (get_or rows k d) ≤ (get_or rows (suc k) d).start
laid_next [] low high k d laid h = absurd (omega (arith, h))
laid_next (r ∷ rows) low high zero d laid h = laid_start rows (past_of r) high 0 d laid.2 (omega (arith, h))
laid_next (r ∷ rows) low high (suc k) d laid h = laid_next rows (past_of r) high k d laid.2 (omega (arith, h))

-- so a sheet is a table
pub sheet_rising : (rows : List Row) → IsSheet rows → IsNonDecreasingBy (λ (r : Row). r.start) rows
sheet_rising rows sheet i j d le h = laid_order rows 0 (2 ^ 64) i j d sheet.laid le h

pub sheet_apart : (rows : List Row) → IsSheet rows → AllAdjacentBelow (λ (r s : Row). past_of r ≤ s.start) rows (length rows)
sheet_apart rows sheet k d h =
    let next : k + 1 ≡ suc k = omega arith in
    subst (λ j. past_of (get_or rows k d) ≤ (get_or rows j d).start) (sym next) (laid_next rows 0 (2 ^ 64) k d sheet.laid (omega (arith, h)))

-- a row of a sheet that has the address
pub laid_found : (rows : List Row) (low high k a : ℕ) (row : Row) → IsLaid low high rows → k < length rows → get_or rows k row ≡ row → row.start ≤ a → a < past_of row → holder rows a ≡ Some row.number
laid_found [] low high k a row laid h e p q = absurd (omega (arith, h))
laid_found (r ∷ rows) low high zero a row laid h e p q =
    let start : r.start ≡ row.start = ap (λ (x : Row). x.start) e in
    let past : past_of r ≡ past_of row = ap (λ (x : Row). past_of x) e in
    holder_yes r rows a (omega (arith, start, p)) (omega (arith, past, q)) ∙ ap (λ (x : Row). Some x.number) e
laid_found (r ∷ rows) low high (suc k) a row laid h e p q =
    let from = laid_start rows (past_of r) high k row laid.2 (omega (arith, h)) in
    let start : (get_or rows k row).start ≡ row.start = ap (λ (x : Row). x.start) e in
    holder_past r rows a (omega (arith, from, start, p)) ∙ laid_found rows (past_of r) high k a row laid.2 (omega (arith, h)) e p q

laid_ends : (rows : List Row) (low high k : ℕ) (row : Row) → IsLaid low high rows → IsEnded rows → k < length rows → get_or rows k row ≡ row → ¬ (holder rows (past_of row) ≡ Some row.number)
laid_ends [] low high k row laid ended h e = λ g. absurd (omega (arith, h))
laid_ends (r ∷ rows) low high zero row laid ended h e = subst (λ (x : Row). ¬ (holder (r ∷ rows) (past_of x) ≡ Some x.number)) e (λ g. ended.0 (sym (holder_past r rows (past_of r) (omega arith)) ∙ g))
laid_ends (r ∷ rows) low high (suc k) row laid ended h e =
    let from = laid_start rows (past_of r) high k row laid.2 (omega (arith, h)) in
    let start : (get_or rows k row).start ≡ row.start = ap (λ (x : Row). x.start) e in
    λ g. laid_ends rows (past_of r) high k row laid.2 ended.1 (omega (arith, h)) e (sym (holder_past r rows (past_of row) (omega (arith, from, start))) ∙ g)

laid_wide : (rows : List Row) (low high k : ℕ) (d : Row) → IsLaid low high rows → k < length rows → 0 < (get_or rows k d).size
laid_wide [] low high k d laid h = absurd (omega (arith, h))
laid_wide (r ∷ rows) low high zero d laid h = laid.1
laid_wide (r ∷ rows) low high (suc k) d laid h = laid_wide rows (past_of r) high k d laid.2 (omega (arith, h))

pub same_default : (rows : List Row) (k : ℕ) (d e : Row) → k < length rows → get_or rows k d ≡ get_or rows k e
same_default rows k d e h = get_or_default rows k d e h

pub sheet_found : (rows : List Row) (a limit m : ℕ) (row : Row) → IsSheet rows → 0 < limit → Contains rows row → row.start ≤ a → a < past_of row → m ≡ min limit (past_of row - a) → (Some row.number ≡ holder rows a) × IsHeld (holder rows) a limit m
sheet_found rows a limit m row sheet positive c p q is =
    let here = λ (b : ℕ) (l : row.start ≤ b) (h : b < past_of row). laid_found rows 0 (2 ^ 64) c.0 b row sheet.laid c.1 c.2 l h in (
      sym (here a p q),
      record {
        some = omega (arith, is, positive, q);
        within = omega (arith, is);
        same = λ k h. here (a + k) (omega (arith, p)) (omega (arith, is, h, p, q)) ∙ sym (here a p q);
        longest = λ h e.
            let end : a + m ≡ past_of row = omega (arith, is, h, q) in
            laid_ends rows 0 (2 ^ 64) c.0 row sheet.laid sheet.ended c.1 c.2 (ap (holder rows) (sym end) ∙ sym e ∙ here a p q);
      },
    )

-- no row has the address
none_has : (rows : List Row) (a : ℕ) → ((k : ℕ) (d : Row) → k < length rows → has_row a (get_or rows k d) ≡ false) → holder rows a ≡ None
none_has [] a h = refl
none_has (r ∷ rows) a h = cond-false (has_row a r) (Some r.number) (holder rows a) (h 0 r (omega arith)) ∙ none_has rows a (λ k d l. h (suc k) d (omega (arith, l)))

module _ (rows : List Row) (sheet : IsSheet rows) (a limit m n : ℕ) (positive : 0 < limit) (ended : (k : ℕ) (d : Row) → k < n → past_of (get_or rows k d) ≤ a) (begins : (k : ℕ) (d : Row) → n ≤ k → k < length rows → a < (get_or rows k d).start) (before : (d : Row) → n < length rows → m ≡ min limit ((get_or rows n d).start - a)) (all : length rows ≤ n → m ≡ limit) where
  -- m ends before the row that begins above
  gap_ends : (k : ℕ) (d : Row) → n ≤ k → k < length rows → a + m ≤ (get_or rows k d).start
  gap_ends k d le h =
      let up = sheet_rising rows sheet n k d le h in
      let is = before d (omega (arith, le, h)) in
      let above = begins n d (omega arith) (omega (arith, le, h)) in
      omega (arith, up, is, above)

  gap_misses : (b : ℕ) → a ≤ b → b < a + m → (k : ℕ) (d : Row) → k < length rows → has_row b (get_or rows k d) ≡ false
  gap_misses b p q k d h = elim (cases_lt k n) as (λ _. has_row b (get_or rows k d) ≡ false) [
    | inl below ↦
        let end = ended k d below in
        and_right (leb (get_or rows k d).start b) (ltb b (past_of (get_or rows k d))) (le-ltb _ _ (omega (arith, end, p)))
    | inr above ↦
        let start = gap_ends k d above h in
        and_left (leb (get_or rows k d).start b) (ltb b (past_of (get_or rows k d))) (lt-leb _ _ (omega (arith, start, q)))
  ]

  gap_some : 0 < m
  gap_some = elim (cases_lt n (length rows)) as (λ _. 0 < m) [
    | inl more ↦
        let z = element rows n more in
        let is = before z more in
        let above = begins n z (omega arith) more in
        omega (arith, is, above, positive)
    | inr last ↦ let is = all last in omega (arith, is, positive)
  ]

  gap_within : m ≤ limit
  gap_within = elim (cases_lt n (length rows)) as (λ _. m ≤ limit) [
    | inl more ↦ let is = before (element rows n more) more in omega (arith, is)
    | inr last ↦ let is = all last in omega (arith, is)
  ]

  gap_none : (b : ℕ) → a ≤ b → b < a + m → holder rows b ≡ None
  gap_none b p q = none_has rows b (gap_misses b p q)

  gap_longest : m < limit → ¬ (holder rows a ≡ holder rows (a + m))
  gap_longest less e = elim (cases_lt n (length rows)) as (λ _. ⊥) [
    | inl more ↦
        let z = element rows n more in
        let row = get_or rows n z in
        let is = before z more in
        let above = begins n z (omega arith) more in
        let end : a + m ≡ row.start = omega (arith, is, less, above) in
        let some = gap_some in
        let wide = laid_wide rows 0 (2 ^ 64) n z sheet.laid more in
        let there = laid_found rows 0 (2 ^ 64) n (a + m) row sheet.laid more (same_default rows n row z more) (omega (arith, end)) (omega (arith, end, wide)) in
        none-some row.number (sym (gap_none a (omega arith) (omega (arith, some))) ∙ e ∙ there)
    | inr last ↦ let is = all last in omega (arith, is, less)
  ]

  pub sheet_missed : (None ≡ holder rows a) × IsHeld (holder rows) a limit m
  sheet_missed =
      let some = gap_some in (
        sym (gap_none a (omega arith) (omega (arith, some))),
        record {
          some = gap_some;
          within = gap_within;
          same = λ k h. gap_none (a + k) (omega arith) (omega (arith, h)) ∙ sym (gap_none a (omega arith) (omega (arith, some)));
          longest = gap_longest;
        },
      )

-- The numbers that the rows of items answer.
abbrev number_in : List (ℕ × Extent) → ℕ → Option ℕ
number_in [] a = None
number_in (d ∷ ds) a = cond (is_within a d.1) (Some d.0) (number_in ds a)

holder_views : (rows : List Row) (a : ℕ) → holder rows a ≡ number_in (map row_view rows) a
holder_views [] a = refl
holder_views (r ∷ rows) a = ap (cond (has_row a r) (Some r.number)) (holder_views rows a)

taking_first : (es : List Extent) (i a : ℕ) → number_in (taking_from i es) a ≡ option_map (λ (d : ℕ × Extent). d.0) (first_from (is_within a) i es)
taking_first [] i a = refl
taking_first (e ∷ es) i a = elim (cases_Bool (takes_addresses (i, e))) as (λ _. number_in (taking_from i (e ∷ es)) a ≡ option_map (λ (d : ℕ × Extent). d.0) (first_from (is_within a) i (e ∷ es))) [
  | inl takes ↦
      ap (λ ds. number_in ds a) (cond-true (takes_addresses (i, e)) ((i, e) ∷ taking_from (i + 1) es) (taking_from (i + 1) es) takes)
      ∙ elim (is_within a e) as (λ t. cond t (Some i) (number_in (taking_from (i + 1) es) a) ≡ option_map (λ (d : ℕ × Extent). d.0) (cond t (Some (i, e)) (first_from (is_within a) (i + 1) es))) [
        | true ↦ refl
        | false ↦ taking_first es (i + 1) a
      ]
  | inr empty ↦
      let past = ltb-false e.start e.past empty in
      let misses : is_within a e ≡ false = elim (cases_lt a e.start) as (λ _. is_within a e ≡ false) [
        | inl below ↦ and_left (leb e.start a) (ltb a e.past) (lt-leb _ _ below)
        | inr above ↦ and_right (leb e.start a) (ltb a e.past) (le-ltb _ _ (omega arith))
      ] in
      ap (λ ds. number_in ds a) (cond-false (takes_addresses (i, e)) ((i, e) ∷ taking_from (i + 1) es) (taking_from (i + 1) es) empty)
      ∙ taking_first es (i + 1) a
      ∙ ap (option_map (λ (d : ℕ × Extent). d.0)) (sym (first_no (is_within a) i e es misses))
]

same_first : {A : Type 0} (f : A → Extent) (o : Option (ℕ × A)) → option_map (λ (d : ℕ × Extent). d.0) (option_map (extent_at f) o) ≡ option_map (λ (d : ℕ × A). d.0) o
same_first f None = refl
same_first f (Some d) = refl

module _ {A : Type 0} (f : A → Extent) (xs : List A) where
  abbrev found_at : ℕ → Option (ℕ × A)
  found_at a = first_from (λ x. is_within a (f x)) 0 xs

  abbrev number_at : ℕ → Option ℕ
  number_at a = option_map (λ (d : ℕ × A). d.0) (found_at a)

  pub rows_number : (rows : List Row) → map row_view rows ≡ taking_from 0 (map f xs) → (a : ℕ) → holder rows a ≡ number_at a
  rows_number rows whole a =
      holder_views rows a
      ∙ ap (λ ds. number_in ds a) whole
      ∙ taking_first (map f xs) 0 a
      ∙ ap (option_map (λ (d : ℕ × Extent). d.0)) (first_extent f (is_within a) 0 xs)
      ∙ same_first f (found_at a)

  pub number_none : (a : ℕ) → None ≡ number_at a → found_at a ≡ None
  number_none a h = decided (found_at a) refl
    where
      decided : (o : Option (ℕ × A)) → found_at a ≡ o → found_at a ≡ None
      decided None g = g
      decided (Some d) g = absurd (none-some d.0 (h ∙ ap (option_map (λ (e : ℕ × A). e.0)) g))

  pub number_found : (a n : ℕ) → Some n ≡ number_at a → found_at a ≡ option_map (λ x. (n, x)) (slice_get xs n)
  number_found a n h = decided (found_at a) refl
    where
      decided : (o : Option (ℕ × A)) → found_at a ≡ o → found_at a ≡ option_map (λ x. (n, x)) (slice_get xs n)
      decided None g = absurd (none-some n (sym (h ∙ ap (option_map (λ (e : ℕ × A). e.0)) g)))
      decided (Some d) g =
          let number : n ≡ d.0 = same_Some n d.0 (h ∙ ap (option_map (λ (e : ℕ × A). e.0)) g) in
          g ∙ sym (ap (λ k. option_map (λ (x : A). (k, x)) (slice_get xs k)) number ∙ ap (option_map (λ (x : A). (d.0, x))) (numbered (λ z. is_within a (f z)) xs d g))

  other_numbers : (o p : Option (ℕ × A)) → ¬ (option_map (λ (d : ℕ × A). d.0) o ≡ option_map (λ (d : ℕ × A). d.0) p) → same_number o p ≡ false
  other_numbers None None h = absurd (h refl)
  other_numbers None (Some e) h = refl
  other_numbers (Some d) None h = refl
  other_numbers (Some d) (Some e) h = ne_eqb d.0 e.0 (λ g. h (ap Some g))

  same_items : (a b : ℕ) (o p : Option (ℕ × A)) → found_at a ≡ o → found_at b ≡ p → option_map (λ (d : ℕ × A). d.0) o ≡ option_map (λ (d : ℕ × A). d.0) p → o ≡ p
  same_items a b None None g h e = refl
  same_items a b None (Some y) g h e = absurd (none-some y.0 e)
  same_items a b (Some x) None g h e = absurd (none-some x.0 (sym e))
  same_items a b (Some x) (Some y) g h e =
      let number : x.0 ≡ y.0 = same_Some x.0 y.0 e in
      let item : x.1 ≡ y.1 = same_Some x.1 y.1 (sym (numbered (λ z. is_within a (f z)) xs x g) ∙ ap (slice_get xs) number ∙ numbered (λ z. is_within b (f z)) xs y h) in
      ap (λ n. Some (n, x.1)) number ∙ ap (λ z. Some (y.0, z)) item

  pub alike_numbers : (answer : ℕ → Option ℕ) (a limit n : ℕ) → ((b : ℕ) → answer b ≡ number_at b) → IsHeld answer a limit n → IsAlike found_at a limit n
  alike_numbers answer a limit n is held = record {
    some = held.some;
    within = held.within;
    same = λ k h. same_items (a + k) a (found_at (a + k)) (found_at a) refl refl (sym (is (a + k)) ∙ held.same k h ∙ is a);
    longest = λ h. other_numbers (found_at a) (found_at (a + n)) (λ e. held.longest h (is a ∙ e ∙ sym (is (a + n))));
  }

-- The rows of items are numbered.
abbrev IsNumberedIn : ℕ → List (ℕ × Extent) → Type 0
IsNumberedIn i [] = Unit {0}
IsNumberedIn i (d ∷ ds) = (i ≤ d.0) × (d.1.start < d.1.past) × (d.1.past ≤ 2 ^ 64) × IsNumberedIn (d.0 + 1) ds

numbered_lower : (ds : List (ℕ × Extent)) (i j : ℕ) → j ≤ i → IsNumberedIn i ds → IsNumberedIn j ds
numbered_lower [] i j le h = tt
numbered_lower (d ∷ ds) i j le h = let from = h.0 in (omega arith, h.1, h.2, h.3)

abbrev pub IsFitting : Extent → Type 0
IsFitting e = e.start < e.past → e.past ≤ 2 ^ 64

taking_numbered : (es : List Extent) (i : ℕ) → AllByRecursion IsFitting es → IsNumberedIn i (taking_from i es)
taking_numbered [] i all = tt
taking_numbered (e ∷ es) i all = elim (cases_Bool (takes_addresses (i, e))) as (λ _. IsNumberedIn i (taking_from i (e ∷ es))) [
  | inl takes ↦
      let less = ltb-true e.start e.past takes in
      subst (IsNumberedIn i) (sym (cond-true (takes_addresses (i, e)) ((i, e) ∷ taking_from (i + 1) es) (taking_from (i + 1) es) takes)) (omega arith, less, all.0 less, taking_numbered es (i + 1) all.1)
  | inr empty ↦
      subst (IsNumberedIn i) (sym (cond-false (takes_addresses (i, e)) ((i, e) ∷ taking_from (i + 1) es) (taking_from (i + 1) es) empty)) (numbered_lower (taking_from (i + 1) es) (i + 1) i (omega arith) (taking_numbered es (i + 1) all.1))
]

numbered_views : (rows : List Row) (i : ℕ) → IsNumberedIn i (map row_view rows) → IsNumbered i rows
numbered_views [] i h = tt
numbered_views (r ∷ rows) i h = let wide = h.1 in (h.0, omega (arith, wide), h.2, numbered_views rows (r.number + 1) h.3)

pub rows_numbered : (es : List Extent) (rows : List Row) → AllByRecursion IsFitting es → map row_view rows ≡ taking_from 0 es → IsNumbered 0 rows
rows_numbered es rows all whole = numbered_views rows 0 (subst (IsNumberedIn 0) (sym whole) (taking_numbered es 0 all))

pub segments_fit : (segments : List SegmentView) → AllByRecursion (λ (s : SegmentView). s.kind ≡ 1 → IsLoadable s) segments → AllByRecursion IsFitting (map segment_extent segments)
segments_fit [] all = tt
segments_fit (s ∷ segments) all = (
  λ less. elim (cases_Bool (eqb s.kind 1)) as (λ _. s.vaddr + span s ≤ 2 ^ 64) [
    | inl load ↦
        let ends = (all.0 (eqb-true s.kind 1 load)).ends in
        let is : span s ≡ s.memsz = cond-true (eqb s.kind 1) s.memsz 0 load in
        omega (arith, is, ends)
    | inr other ↦
        let is : span s ≡ 0 = cond-false (eqb s.kind 1) s.memsz 0 other in
        absurd (omega (arith, is, less))
  ],
  segments_fit segments all.1,
)

pub files_fit : (files : List FileMap) → All (λ (f : FileMap). f.past < 2 ^ 64) files → AllByRecursion IsFitting (map file_extent (map file_view files))
files_fit [] all = tt
files_fit (f ∷ files) all = (λ less. let fits = all 0 f (omega arith) in omega (arith, fits), files_fit files (λ k d h. all (suc k) d (omega (arith, h))))

-- Steps over addresses that other segments decide.
use Rattle.std.proofs.Common.{◌≡◌, ◌<◌, ◌≤◌, ℕ, zero, suc, ◌+◌, ◌-◌, ◌*◌, ◌^◌, ◌&&◌, leb, ltb, Bool, true, false, List, [], ◌∷◌, ◌++◌, length, drop, get_or, Option, Some, All, Contains, refl, sym, ap, ◌∙◌, arith, inl, inr}
use Rattle.std.specs.Option.{option_map}
use Rattle.std.specs.List.Sorted.{IsNonDecreasingBy, IsPermutation}
use Rattle.std.proofs.Math.Logic.{∥∥₁_elim}
use Rattle.std.proofs.Props.{props}
use Rattle.std.proofs.lemmas.Bool.{true≢false, and_left, and_parts, leb-true, ltb-true, cases_lt, cases_Bool, cond-true, cond-false}
use Rattle.std.proofs.lemmas.List.{get_or_default}
use Rattle.std.proofs.lemmas.List.Elements.{All-contains, Contains-append_right}
use Rattle.std.proofs.lemmas.List.Sorted.{All-permutation, Contains-permutation}
use Rattle.std.proofs.lemmas.Option.{same_Some, none-some}
use Rattle.elf_view.specs.Header.{SegmentView}
use Rattle.address_space.specs.Source.{Space, span, decider}
use Rattle.address_space.specs.Occurrence.{is_decided_by, decided_from, ordered_from}
use Rattle.address_space.specs.ScanWords.{past_of}
use Rattle.address_space.specs.Layers.{has_row, holder, IsLaid, IsSheet}
use Rattle.address_space.specs.Orders.{key_of, IsAmong, IsOrderOf}
use Rattle.address_space.specs.declared.row.Row.{Row}
use Rattle.address_space.proofs.Layering.{laid_bounds}
use Rattle.address_space.proofs.Ordering.{decided_number, filter_empty, number_decided, passed_over}
use Rattle.address_space.proofs.Sheets.{laid_found, same_default}

-- the first row after a place of the order
pub next_row : (rows : List Row) (last count : ℕ) (row : Row) → IsNonDecreasingBy key_of rows → ((k : ℕ) (r : Row) → k < count → key_of (get_or rows k r) ≤ last) → ((k : ℕ) (r : Row) → count ≤ k → k < length rows → last < key_of (get_or rows k r)) → count < length rows → get_or rows count row ≡ row → (last < key_of row) × ((s : Row) → Contains rows s → last < key_of s → key_of row ≤ key_of s)
next_row rows last count row rising below above less is =
    let own = above count row (omega arith) less in
    let up : key_of (get_or rows count row) ≡ key_of row = ap (λ (r : Row). key_of r) is in (
      omega (arith, own, up),
      λ s c more.
          let there : key_of (get_or rows c.0 s) ≡ key_of s = ap (λ (r : Row). key_of r) c.2 in
          elim (cases_lt c.0 count) as (λ _. key_of row ≤ key_of s) [
            | inl low ↦ let b = below c.0 s low in absurd (omega (arith, b, there, more))
            | inr high ↦
                let on = rising count c.0 s high c.1 in
                let same : key_of (get_or rows count s) ≡ key_of (get_or rows count row) = ap (λ (r : Row). key_of r) (get_or_default rows count s row less) in
                omega (arith, on, same, there, up)
          ],
    )

has_bounds : (a : ℕ) (r : Row) → has_row a r ≡ true → (r.start ≤ a) × (a < past_of r)
has_bounds a r h =
    let parts = and_parts (leb r.start a) (ltb a (past_of r)) h in
    (leb-true r.start a parts.0, ltb-true a (past_of r) parts.1)

-- what answers is one of the rows
holder_among : (rows : List Row) (a n : ℕ) → holder rows a ≡ Some n → IsAmong rows a n
holder_among [] a n h = absurd (none-some n h)
holder_among (r ∷ rows) a n h = elim (cases_Bool (has_row a r)) as (λ _. IsAmong (r ∷ rows) a n) [
  | inl has_it ↦ record {
    row = r;
    among = (0, omega arith, refl);
    number = same_Some r.number n (sym (cond-true (has_row a r) (Some r.number) (holder rows a) has_it) ∙ h);
    from = (has_bounds a r has_it).0;
    within = (has_bounds a r has_it).1;
  }
  | inr has_not ↦
      let rest = holder_among rows a n (sym (cond-false (has_row a r) (Some r.number) (holder rows a) has_not) ∙ h) in
      record {
        row = rest.row;
        among = Contains-append_right (r ∷ []) rows rest.row rest.among;
        number = rest.number;
        from = rest.from;
        within = rest.within;
      }
]

laid_fits : (rows : List Row) (low high k : ℕ) (d : Row) → IsLaid low high rows → k < length rows → (get_or rows k d).start < high
laid_fits [] low high k d laid h = absurd (omega (arith, h))
laid_fits (r ∷ rows) low high zero d laid h =
    let rest = laid_bounds rows (past_of r) high laid.2 in
    let wide = laid.1 in
    omega arith
laid_fits (r ∷ rows) low high (suc k) d laid h = laid_fits rows (past_of r) high k d laid.2 (omega (arith, h))

-- what is kept of a row of a sheet in another order
abbrev IsRight : (ℕ → Option ℕ) → Row → Type 0
IsRight answer s = ((a : ℕ) → s.start ≤ a → a < past_of s → answer a ≡ Some s.number) × (s.start < 2 ^ 64)

all_right : (rows : List Row) → IsSheet rows → All (IsRight (holder rows)) rows
all_right rows sheet k d h = (
  λ a p q. laid_found rows 0 (2 ^ 64) k a (get_or rows k d) sheet.laid h (same_default rows k (get_or rows k d) d h) p q,
  laid_fits rows 0 (2 ^ 64) k d sheet.laid h,
)

-- the rows of a sheet in another order
pub sheet_order : (answer : ℕ → Option ℕ) (rows order : List Row) → IsSheet rows → IsPermutation rows order → ((a : ℕ) → holder rows a ≡ answer a) → IsOrderOf answer order
sheet_order answer rows order sheet moved same =
    let all = All-permutation (IsRight (holder rows)) rows order moved (all_right rows sheet) in
    record {
      whole = λ a n h.
          let m = holder_among rows a n (same a ∙ h) in
          ∣ record {
            row = m.row;
            among = Contains-permutation rows order m.row moved m.among;
            number = m.number;
            from = m.from;
            within = m.within;
          } ∣₁;
      right = λ s c a p q. sym (same a) ∙ (All-contains (IsRight (holder rows)) order s all c).0 a p q;
      fits = λ s c. (All-contains (IsRight (holder rows)) order s all c).1;
    }

module _ (answer : ℕ → Option ℕ) (rows : List Row) (o : IsOrderOf answer rows) (n at : ℕ) (small : at < 2 ^ 64) (elsewhere : ¬ (answer at ≡ Some n)) where
  -- the row of a later address follows
  later_row : (b j : ℕ) (m : IsAmong rows b j) → n ≤ j → (j ≡ n → at ≤ b) → n * 2 ^ 64 + at < key_of m.row
  later_row b j m le from =
      let number = m.number in
      let low = m.from in
      let high = m.within in
      elim (cases_lt n j) as (λ _. n * 2 ^ 64 + at < key_of m.row) [
        | inl more ↦ omega (arith, more, number, small)
        | inr last ↦
            let is : j ≡ n = omega (arith, le, last) in
            let b_from = from is in
            elim (cases_lt at m.row.start) as (λ _. n * 2 ^ 64 + at < key_of m.row) [
              | inl above ↦ omega (arith, above, number, is)
              | inr below ↦ absurd (elsewhere (o.right m.row m.among at below (omega (arith, high, b_from)) ∙ ap Some (number ∙ is)))
            ]
      ]

  pub none_later : ((s : Row) → Contains rows s → key_of s ≤ n * 2 ^ 64 + at) → (b j : ℕ) → n ≤ j → (j ≡ n → at ≤ b) → ¬ (answer b ≡ Some j)
  none_later none b j le from e = ∥∥₁_elim (o.whole b j e) (hlevel props) (λ m. let later = later_row b j m le from in let before = none m.row m.among in omega (arith, later, before))

  module _ (r : Row) (first : (s : Row) → Contains rows s → n * 2 ^ 64 + at < key_of s → key_of r ≤ key_of s) where
    pub before_row : (b j : ℕ) → n ≤ j → (j ≡ n → at ≤ b) → j < r.number → ¬ (answer b ≡ Some j)
    before_row b j le from less e = ∥∥₁_elim (o.whole b j e) (hlevel props) (λ m. let behind = first m.row m.among (later_row b j m le from) in let fits = o.fits m.row m.among in let number = m.number in omega (arith, behind, fits, number, less))

    pub before_start : (b : ℕ) → at ≤ b → r.number ≡ n → b < r.start → ¬ (answer b ≡ Some n)
    before_start b from is less e = ∥∥₁_elim (o.whole b n e) (hlevel props) (λ m. let behind = first m.row m.among (later_row b n m (omega arith) (λ _. from)) in let number = m.number in let low = m.from in omega (arith, behind, number, is, low, less))

-- the number of the segment that decides an address
abbrev pub number_of : Space → ℕ → Option ℕ
number_of space a = option_map (λ (d : ℕ × SegmentView). d.0) (decider space a)

pub not_decided : (space : Space) (i a : ℕ) → ¬ (number_of space a ≡ Some i) → is_decided_by space i a ≡ false
not_decided space i a h = elim (cases_Bool (is_decided_by space i a)) as (λ _. is_decided_by space i a ≡ false) [
  | inl by ↦ absurd (h (number_decided i (decider space a) by))
  | inr other ↦ other
]

pub decided_none : (space : Space) (test : ℕ → Bool) (i a n : ℕ) → ((k : ℕ) → k < n → is_decided_by space i (a + k) ≡ false) → decided_from space test i a n ≡ []
decided_none space test i a n none =
    let z : n - n ≡ 0 = omega arith in
    passed_over space test i a n n (a + n) (omega arith) (λ k h. and_left (is_decided_by space i (a + k)) (test (a + k)) (none k h)) (λ h. refl)
    ∙ filter_empty (λ b. is_decided_by space i b && test b) (a + n) (n - n) z

pub ordered_none : (space : Space) (test : ℕ → Bool) (xs : List SegmentView) (i : ℕ) → ((j b : ℕ) → i ≤ j → is_decided_by space j b ≡ false) → ordered_from space test i xs ≡ []
ordered_none space test [] i none = refl
ordered_none space test (x ∷ xs) i none =
    ap (λ ys. ys ++ ordered_from space test (i + 1) xs) (decided_none space test i x.vaddr (span x) (λ k h. none i (x.vaddr + k) (omega arith)))
    ∙ ordered_none space test xs (i + 1) (λ j b h. none j b (omega (arith, h)))

ordered_skip : (space : Space) (test : ℕ → Bool) (k : ℕ) (xs : List SegmentView) (i : ℕ) → ((j b : ℕ) → i ≤ j → j < i + k → is_decided_by space j b ≡ false) → ordered_from space test i xs ≡ ordered_from space test (i + k) (drop k xs)
ordered_skip space test zero xs i none = let e : i ≡ i + zero = omega arith in ap (λ j. ordered_from space test j xs) e
ordered_skip space test (suc k) [] i none = refl
ordered_skip space test (suc k) (x ∷ xs) i none =
    let e : i + 1 + k ≡ i + suc k = omega arith in
    ap (λ ys. ys ++ ordered_from space test (i + 1) xs) (decided_none space test i x.vaddr (span x) (λ l h. none i (x.vaddr + l) (omega arith) (omega arith)))
    ∙ ordered_skip space test k xs (i + 1) (λ j b p q. none j b (omega (arith, p)) (omega (arith, q)))
    ∙ ap (λ j. ordered_from space test j (drop k xs)) e

abbrev none_of : List SegmentView
none_of = []

drop_none_of : (n : ℕ) → drop n (none_of) ≡ none_of
drop_none_of zero = refl
drop_none_of (suc n) = refl

drop_twice : (i k : ℕ) (xs : List SegmentView) → drop k (drop i xs) ≡ drop (i + k) xs
drop_twice zero k xs = let e : k ≡ zero + k = omega arith in ap (λ n. drop n xs) e
drop_twice (suc i) k [] = drop_none_of k ∙ sym (drop_none_of (suc i + k))
drop_twice (suc i) k (x ∷ xs) = let e : suc (i + k) ≡ suc i + k = omega arith in drop_twice i k xs ∙ ap (λ n. drop n (x ∷ xs)) e

-- segments that decide nothing are passed over
pub ordered_on : (space : Space) (test : ℕ → Bool) (i m : ℕ) → i ≤ m → ((j b : ℕ) → i ≤ j → j < m → is_decided_by space j b ≡ false) → ordered_from space test i (drop i space.segments) ≡ ordered_from space test m (drop m space.segments)
ordered_on space test i m le none =
    let e : i + (m - i) ≡ m = omega arith in
    ordered_skip space test (m - i) (drop i space.segments) i (λ j b p q. none j b p (omega (arith, q)))
    ∙ ap (λ xs. ordered_from space test (i + (m - i)) xs) (drop_twice i (m - i) space.segments)
    ∙ ap (λ j. ordered_from space test j (drop j space.segments)) e

not_number : (space : Space) (i a : ℕ) → is_decided_by space i a ≡ false → ¬ (number_of space a ≡ Some i)
not_number space i a h e = true≢false (sym (decided_number i (decider space a) e) ∙ h)

-- what is still to come where the segment at hand does not decide the next address
module _ (space : Space) (rows : List Row) (o : IsOrderOf (number_of space) rows) (n at left : ℕ) (small : at < 2 ^ 64) (elsewhere : is_decided_by space n at ≡ false) (test : ℕ → Bool) where
  abbrev rest : List ℕ
  rest = ordered_from space test (n + 1) (drop (n + 1) space.segments)

  -- nothing, where no row follows
  pub leap_none : ((s : Row) → Contains rows s → key_of s ≤ n * 2 ^ 64 + at) → decided_from space test n at left ++ rest ≡ []
  leap_none none =
      let never = none_later (number_of space) rows o n at small (not_number space n at elsewhere) none in
      ap (λ xs. xs ++ rest) (decided_none space test n at left (λ k h. not_decided space n (at + k) (never (at + k) n (omega arith) (λ _. omega arith))))
      ∙ ordered_none space test (drop (n + 1) space.segments) (n + 1) (λ j b h. not_decided space j b (never b j (omega (arith, h)) (λ e. absurd (omega (arith, h, e)))))

  module _ (r : Row) (first : (s : Row) → Contains rows s → n * 2 ^ 64 + at < key_of s → key_of r ≤ key_of s) where
    -- what the segment of the next row decides, and those after it
    pub leap_number : n < r.number → decided_from space test n at left ++ rest ≡ ordered_from space test r.number (drop r.number space.segments)
    leap_number more =
        let never = before_row (number_of space) rows o n at small (not_number space n at elsewhere) r first in
        ap (λ xs. xs ++ rest) (decided_none space test n at left (λ k h. not_decided space n (at + k) (never (at + k) n (omega arith) (λ _. omega arith) more)))
        ∙ ordered_on space test (n + 1) r.number (omega (arith, more)) (λ j b h l. not_decided space j b (never b j (omega (arith, h)) (λ e. absurd (omega (arith, h, e))) l))

    -- the addresses from the next row on
    pub leap_start : r.number ≡ n → (m b : ℕ) → m ≤ left → m ≤ r.start - at → (0 < left - m → b ≡ at + m) → decided_from space test n at left ++ rest ≡ decided_from space test n b (left - m) ++ rest
    leap_start is m b le before on =
        let never = before_start (number_of space) rows o n at small (not_number space n at elsewhere) r first in
        ap (λ xs. xs ++ rest) (passed_over space test n at left m b le (λ k h. and_left (is_decided_by space n (at + k)) (test (at + k)) (not_decided space n (at + k) (never (at + k) (omega arith) is (omega (arith, h, before))))) on)

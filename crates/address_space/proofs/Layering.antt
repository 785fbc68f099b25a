-- Rows over one another, laid out side by side.
use Rattle.std.proofs.Common.{◌≡◌, ◌<◌, ◌≤◌, ℕ, ◌+◌, ◌^◌, leb, ltb, cond, true, false, List, [], ◌∷◌, ◌++◌, length, Option, None, Some, min, max, refl, sym, ap, subst, ◌∙◌, arith, inl, inr}
use Rattle.std.proofs.lemmas.Bool.{le-leb, lt-ltb, lt-leb, le-ltb, and_from, and_left, and_right, cases_lt, cases_Bool, cond-true, cond-false}
use Rattle.std.proofs.lemmas.Option.{same_Some, none-some}
use Rattle.address_space.specs.ScanWords.{past_of}
use Rattle.address_space.specs.Layers.{has_row, holder, or_else, IsNumbered, IsLaid, IsEnded, IsSheet, either_holder, ceiling_of, AreStrange, IsMerging, IsNext, IsHidden, IsTaken}
use Rattle.address_space.specs.declared.row.Row.{Row}

pub holder_yes : (r : Row) (rows : List Row) (a : ℕ) → r.start ≤ a → a < past_of r → holder (r ∷ rows) a ≡ Some r.number
holder_yes r rows a p q = cond-true (has_row a r) (Some r.number) (holder rows a) (and_from (leb r.start a) (ltb a (past_of r)) (le-leb _ _ p) (lt-ltb _ _ q))

pub holder_low : (r : Row) (rows : List Row) (a : ℕ) → a < r.start → holder (r ∷ rows) a ≡ holder rows a
holder_low r rows a p = cond-false (has_row a r) (Some r.number) (holder rows a) (and_left (leb r.start a) (ltb a (past_of r)) (lt-leb _ _ p))

pub holder_past : (r : Row) (rows : List Row) (a : ℕ) → past_of r ≤ a → holder (r ∷ rows) a ≡ holder rows a
holder_past r rows a p = cond-false (has_row a r) (Some r.number) (holder rows a) (and_right (leb r.start a) (ltb a (past_of r)) (le-ltb _ _ p))

pub holder_append : (xs ys : List Row) (a : ℕ) → holder (xs ++ ys) a ≡ or_else (holder xs a) (holder ys a)
holder_append [] ys a = refl
holder_append (x ∷ xs) ys a =
    elim (has_row a x) as (λ t. cond t (Some x.number) (holder (xs ++ ys) a) ≡ or_else (cond t (Some x.number) (holder xs a)) (holder ys a)) [
      | true ↦ refl
      | false ↦ holder_append xs ys a
    ]

or_none : (o : Option ℕ) → or_else o None ≡ o
or_none None = refl
or_none (Some n) = refl

-- no row has an address below the first, or from the end on
pub laid_below : (rows : List Row) (low high a : ℕ) → IsLaid low high rows → a < low → holder rows a ≡ None
laid_below [] low high a laid h = refl
laid_below (r ∷ rows) low high a laid h =
    let from = laid.0 in
    holder_low r rows a (omega arith) ∙ laid_below rows (past_of r) high a laid.2 (omega arith)

pub laid_bounds : (rows : List Row) (low high : ℕ) → IsLaid low high rows → low ≤ high
laid_bounds [] low high laid = laid
laid_bounds (r ∷ rows) low high laid =
    let from = laid.0 in
    let rest = laid_bounds rows (past_of r) high laid.2 in
    omega arith

pub laid_above : (rows : List Row) (low high a : ℕ) → IsLaid low high rows → high ≤ a → holder rows a ≡ None
laid_above [] low high a laid h = refl
laid_above (r ∷ rows) low high a laid h =
    let rest = laid_bounds rows (past_of r) high laid.2 in
    holder_past r rows a (omega arith) ∙ laid_above rows (past_of r) high a laid.2 h

pub laid_weaker : (rows : List Row) (low lower high : ℕ) → lower ≤ low → IsLaid low high rows → IsLaid lower high rows
laid_weaker [] low lower high le laid = omega (arith, le, laid)
laid_weaker (r ∷ rows) low lower high le laid = let from = laid.0 in (omega arith, laid.1, laid.2)

-- they may begin as high as the first does
pub laid_raised : (rows : List Row) (low raised : ℕ) → raised ≤ ceiling_of rows → IsLaid low (2 ^ 64) rows → IsLaid raised (2 ^ 64) rows
laid_raised [] low raised le laid = le
laid_raised (r ∷ rows) low raised le laid = (le, laid.1, laid.2)

-- one more after the others
pub laid_put : (rows : List Row) (low high : ℕ) (r : Row) → IsLaid low high rows → high ≤ r.start → 0 < r.size → IsLaid low (past_of r) (rows ++ r ∷ [])
laid_put [] low high r laid from some = (omega (arith, laid, from), some, omega arith)
laid_put (x ∷ rows) low high r laid from some = (laid.0, laid.1, laid_put rows (past_of x) high r laid.2 from some)

-- what one of those after the first answers, all answer
pub holder_rest : (r : Row) (rows : List Row) (low high b n : ℕ) → IsLaid low high (r ∷ rows) → holder rows b ≡ Some n → holder (r ∷ rows) b ≡ Some n
holder_rest r rows low high b n laid h = elim (cases_lt b (past_of r)) as (λ _. holder (r ∷ rows) b ≡ Some n) [
  | inl below ↦ absurd (none-some n (sym (laid_below rows (past_of r) high b laid.2 below) ∙ h))
  | inr above ↦ holder_past r rows b above ∙ h
]

holder_first : (r : Row) (rows : List Row) → 0 < r.size → holder (r ∷ rows) r.start ≡ Some r.number
holder_first r rows some = holder_yes r rows r.start (omega arith) (omega arith)

-- the first row below is left out
pub without_under : (over rows : List Row) (r : Row) (at : ℕ) → IsMerging over (r ∷ rows) at → IsMerging over rows at
without_under over rows r at m = record {
  over_laid = m.over_laid;
  over_ended = m.over_ended;
  under_laid = laid_weaker rows (past_of r) 0 (2 ^ 64) (omega arith) m.under_laid.2;
  under_ended = m.under_ended.1;
  strange = λ a b n p q. m.strange a b n p (holder_rest r rows 0 (2 ^ 64) b n m.under_laid q);
}

-- the first row on top is left out
pub without_over : (under rows : List Row) (r : Row) (at : ℕ) → IsMerging (r ∷ rows) under at → IsMerging rows under (past_of r)
without_over under rows r at m = record {
  over_laid = m.over_laid.2;
  over_ended = m.over_ended.1;
  under_laid = m.under_laid;
  under_ended = m.under_ended;
  strange = λ a b n p q. m.strange a b n (holder_rest r rows at (2 ^ 64) a n m.over_laid p) q;
}

pub raised : (over under : List Row) (at higher : ℕ) → higher ≤ ceiling_of over → IsMerging over under at → IsMerging over under higher
raised over under at higher le m = record {
  over_laid = laid_raised over at higher le m.over_laid;
  over_ended = m.over_ended;
  under_laid = m.under_laid;
  under_ended = m.under_ended;
  strange = m.strange;
}

either_none : (over under : List Row) (a : ℕ) → holder over a ≡ None → either_holder over under a ≡ holder under a
either_none over under a h = ap (λ o. or_else o (holder under a)) h

-- below the first on top the others answer
below_ceiling : (over : List Row) (at a : ℕ) → IsLaid at (2 ^ 64) over → a < ceiling_of over → holder over a ≡ None
below_ceiling [] at a laid h = refl
below_ceiling (r ∷ rows) at a laid h = holder_low r rows a h ∙ laid_below rows (past_of r) (2 ^ 64) a laid.2 (let some = laid.1 in omega arith)

-- the end of a part of the first row below is not answered alike
under_ends : (over rows : List Row) (u : Row) (at past : ℕ) → IsMerging over (u ∷ rows) at → past ≡ min (ceiling_of over) (past_of u) → ¬ (either_holder over (u ∷ rows) past ≡ Some u.number)
under_ends [] rows u at past m is e =
    let within = laid_bounds rows (past_of u) (2 ^ 64) m.under_laid.2 in
    let end : past ≡ past_of u = omega (arith, is, within) in
    m.under_ended.0 (sym (holder_past u rows (past_of u) (omega arith)) ∙ ap (holder (u ∷ rows)) (sym end) ∙ e)
under_ends (o ∷ over) rows u at past m is e = elim (cases_lt past o.start) as (λ _. ⊥) [
  | inl below ↦
      let end : past ≡ past_of u = omega (arith, is, below) in
      let none = below_ceiling (o ∷ over) at past m.over_laid below in
      m.under_ended.0 (sym (holder_past u rows (past_of u) (omega arith)) ∙ ap (holder (u ∷ rows)) (sym end) ∙ sym (either_none (o ∷ over) (u ∷ rows) past none) ∙ e)
  | inr above ↦
      let end : past ≡ o.start = omega (arith, is, above) in
      let top : holder (o ∷ over) past ≡ Some o.number = ap (holder (o ∷ over)) end ∙ holder_first o over m.over_laid.1 in
      let same : o.number ≡ u.number = same_Some o.number u.number (sym (ap (λ h. or_else h (holder (u ∷ rows) past)) top) ∙ e) in
      m.strange o.start u.start u.number (holder_first o over m.over_laid.1 ∙ ap Some same) (holder_first u rows m.under_laid.1)
]

-- a part of the first row below comes next
pub next_under : (over rows : List Row) (u r : Row) (at : ℕ) → IsMerging over (u ∷ rows) at → r.number ≡ u.number → r.start ≡ max at u.start → past_of r ≡ min (ceiling_of over) (past_of u) → r.start < past_of r → IsNext (either_holder over (u ∷ rows)) at r
next_under over rows u r at m number start past some =
    let fits = laid_bounds rows (past_of u) (2 ^ 64) m.under_laid.2 in record {
      from = omega (arith, start);
      some = omega (arith, some);
      fits = omega (arith, past, fits);
      before = λ a p q.
          let wide = m.under_laid.1 in
          either_none over (u ∷ rows) a (below_ceiling over at a m.over_laid (omega (arith, past, some, q)))
          ∙ holder_low u rows a (omega (arith, start, p, q))
          ∙ laid_below rows (past_of u) (2 ^ 64) a m.under_laid.2 (omega (arith, start, p, q, wide));
      held = λ a p q.
          either_none over (u ∷ rows) a (below_ceiling over at a m.over_laid (omega (arith, past, q)))
          ∙ holder_yes u rows a (omega (arith, start, p)) (omega (arith, past, q))
          ∙ ap Some (sym number);
      ended = λ e. under_ends over rows u at (past_of r) m past (e ∙ ap Some number);
    }

under_hidden : (over under : List Row) (at a : ℕ) → IsLaid 0 (2 ^ 64) under → IsHidden over under at → at ≤ a → a < ceiling_of over → holder under a ≡ None
under_hidden over [] at a laid hidden p q = refl
under_hidden over (u ∷ rows) at a laid hidden p q =
    let wide = laid.1 in
    holder_low u rows a (omega (arith, hidden, p, q)) ∙ laid_below rows (past_of u) (2 ^ 64) a laid.2 (omega (arith, hidden, p, q, wide))

over_ends : (o : Option ℕ) (n : ℕ) (under : Option ℕ) → ¬ (o ≡ Some n) → ¬ (under ≡ Some n) → ¬ (or_else o under ≡ Some n)
over_ends None n under p q e = q e
over_ends (Some k) n under p q e = p e

-- the first row on top comes next
pub next_over : (over under : List Row) (o : Row) (at : ℕ) → IsMerging (o ∷ over) under at → IsHidden (o ∷ over) under at → IsNext (either_holder (o ∷ over) under) at o
next_over over under o at m hidden = record {
  from = m.over_laid.0;
  some = m.over_laid.1;
  fits = laid_bounds over (past_of o) (2 ^ 64) m.over_laid.2;
  before = λ a p q.
      either_none (o ∷ over) under a (below_ceiling (o ∷ over) at a m.over_laid q) ∙ under_hidden (o ∷ over) under at a m.under_laid hidden p q;
  held = λ a p q. ap (λ h. or_else h (holder under a)) (holder_yes o over a p q);
  ended = λ e.
      over_ends (holder over (past_of o)) o.number (holder under (past_of o)) m.over_ended.0
      (λ h. m.strange o.start (past_of o) o.number (holder_first o over m.over_laid.1) h)
      (sym (ap (λ h. or_else h (holder under (past_of o))) (holder_past o over (past_of o) (omega arith))) ∙ e);
}

-- the answer from an address on alone decides what comes next
pub next_alike : (f g : ℕ → Option ℕ) (at : ℕ) (r : Row) → ((a : ℕ) → at ≤ a → f a ≡ g a) → IsNext f at r → IsNext g at r
next_alike f g at r same next =
    let from = next.from in record {
      from = next.from;
      some = next.some;
      fits = next.fits;
      before = λ a p q. sym (same a p) ∙ next.before a p q;
      held = λ a p q. sym (same a (omega arith)) ∙ next.held a p q;
      ended = λ e. next.ended (same (past_of r) (omega arith) ∙ e);
    }

-- it is taken
pub take_over : (over under : List Row) (o : Row) (at at_left : ℕ) → at_left ≡ past_of o → IsMerging (o ∷ over) under at → IsHidden (o ∷ over) under at → IsTaken (o ∷ over) under at o over under at_left
take_over over under o at at_left is m hidden = record {
  next = next_over over under o at m hidden;
  merging = subst (IsMerging over under) (sym is) (without_over under over o at m);
  behind = is;
  same = λ a h. ap (λ p. or_else p (holder under a)) (sym (holder_past o over a h));
}

-- a part of a row below is
pub take_under : (over under : List Row) (r : Row) (at at_left : ℕ) → at_left ≡ past_of r → IsMerging over under at → IsNext (either_holder over under) at r → past_of r ≤ ceiling_of over → IsTaken over under at r over under at_left
take_under over under r at at_left is m next within = record {
  next = next;
  merging = subst (IsMerging over under) (sym is) (raised over under at (past_of r) within m);
  behind = is;
  same = λ a h. refl;
}

-- rows below that went by change nothing
pub taken_uncovered : (over under others : List Row) (at : ℕ) (r : Row) (over_left under_left : List Row) (at_left : ℕ) → ((a : ℕ) → at ≤ a → holder others a ≡ holder under a) → IsTaken over others at r over_left under_left at_left → IsTaken over under at r over_left under_left at_left
taken_uncovered over under others at r over_left under_left at_left same t =
    let from = t.next.from in record {
      next = next_alike (either_holder over others) (either_holder over under) at r (λ a h. ap (or_else (holder over a)) (same a h)) t.next;
      merging = t.merging;
      behind = t.behind;
      same = λ a h. t.same a h ∙ ap (or_else (holder over a)) (same a (omega arith));
    }

-- nothing is left
pub none_left : (under others : List Row) (at : ℕ) → IsMerging [] others at → IsHidden [] others at → ((r : Row) (rest : List Row) → others ≡ r ∷ rest → at < past_of r) → ((a : ℕ) → at ≤ a → holder others a ≡ holder under a) → (a : ℕ) → at ≤ a → either_holder [] under a ≡ None
none_left under [] at m hidden ends same a h = sym (same a h)
none_left under (u ∷ others) at m hidden ends same a h =
    let wide = m.under_laid.1 in
    let fits = laid_bounds others (past_of u) (2 ^ 64) m.under_laid.2 in
    let end = ends u others refl in
    absurd (omega (arith, hidden, wide, fits, end))

pub none_ahead : (over under others : List Row) (at : ℕ) → length over ≡ 0 → IsMerging over others at → IsHidden over others at → ((r : Row) (rest : List Row) → others ≡ r ∷ rest → at < past_of r) → ((a : ℕ) → at ≤ a → holder others a ≡ holder under a) → (a : ℕ) → at ≤ a → either_holder over under a ≡ None
none_ahead [] under others at h m hidden ends same = none_left under others at m hidden ends same
none_ahead (o ∷ over) under others at h m hidden ends same = absurd (omega (arith, h))

-- each of the rows ends where the answer is another
abbrev pub EndsIn : (ℕ → Option ℕ) → List Row → Type 0
EndsIn answer [] = Unit {0}
EndsIn answer (r ∷ rows) = (¬ (answer (past_of r) ≡ Some r.number)) × EndsIn answer rows

ends_put : (answer : ℕ → Option ℕ) (rows : List Row) (r : Row) → EndsIn answer rows → ¬ (answer (past_of r) ≡ Some r.number) → EndsIn answer (rows ++ r ∷ [])
ends_put answer [] r ends h = (h, tt)
ends_put answer (x ∷ rows) r ends h = (ends.0, ends_put answer rows r ends.1 h)

-- rows that are laid out up to an address
pub record IsPut (answer : ℕ → Option ℕ) (rows : List Row) (at : ℕ) : Type 0 where
  pub laid : IsLaid 0 at rows
  pub same : (a : ℕ) → a < at → answer a ≡ holder rows a
  pub ends : EndsIn answer rows

-- the row that comes next is put after them
pub put_next : (answer : ℕ → Option ℕ) (rows : List Row) (at : ℕ) (r : Row) → IsPut answer rows at → IsNext answer at r → IsPut answer (rows ++ r ∷ []) (past_of r)
put_next answer rows at r put next = record {
  laid = laid_put rows 0 at r put.laid next.from next.some;
  same = λ a h. sym (holder_append rows (r ∷ []) a ∙ put_answer a h);
  ends = ends_put answer rows r put.ends next.ended;
}
  where
    from_on : (a : ℕ) → at ≤ a → a < past_of r → holder (r ∷ []) a ≡ answer a
    from_on a p h = elim (cases_lt a r.start) as (λ _. holder (r ∷ []) a ≡ answer a) [
      | inl below ↦ holder_low r [] a below ∙ sym (next.before a p below)
      | inr above ↦ holder_yes r [] a above h ∙ sym (next.held a above h)
    ]

    put_answer : (a : ℕ) → a < past_of r → or_else (holder rows a) (holder (r ∷ []) a) ≡ answer a
    put_answer a h = elim (cases_lt a at) as (λ _. or_else (holder rows a) (holder (r ∷ []) a) ≡ answer a) [
      | inl below ↦
          let from = next.from in
          ap (or_else (holder rows a)) (holder_low r [] a (omega arith)) ∙ or_none (holder rows a) ∙ sym (put.same a below)
      | inr above ↦ ap (λ o. or_else o (holder (r ∷ []) a)) (laid_above rows 0 at a put.laid above) ∙ from_on a above h
    ]

ended_in : (answer : ℕ → Option ℕ) (rows : List Row) (low high : ℕ) → IsLaid low high rows → ((a : ℕ) → low ≤ a → answer a ≡ holder rows a) → EndsIn answer rows → IsEnded rows
ended_in answer [] low high laid same ends = tt
ended_in answer (r ∷ rows) low high laid same ends =
    let from = laid.0 in (
      λ e. ends.0 (same (past_of r) (omega arith) ∙ holder_past r rows (past_of r) (omega arith) ∙ e),
      ended_in answer rows (past_of r) high laid.2 (λ a h. same a (omega arith) ∙ holder_past r rows a h) ends.1,
    )

laid_higher : (rows : List Row) (low high higher : ℕ) → high ≤ higher → IsLaid low high rows → IsLaid low higher rows
laid_higher [] low high higher le laid = omega (arith, le, laid)
laid_higher (r ∷ rows) low high higher le laid = (laid.0, laid.1, laid_higher rows (past_of r) high higher le laid.2)

put_all : (answer : ℕ → Option ℕ) (rows : List Row) (at : ℕ) → IsPut answer rows at → ((a : ℕ) → at ≤ a → answer a ≡ None) → (a : ℕ) → answer a ≡ holder rows a
put_all answer rows at put none a = elim (cases_lt a at) as (λ _. answer a ≡ holder rows a) [
  | inl below ↦ put.same a below
  | inr above ↦ none a above ∙ sym (laid_above rows 0 at a put.laid above)
]

-- nothing follows them
pub put_sheet : (answer : ℕ → Option ℕ) (rows : List Row) (at : ℕ) → at ≤ 2 ^ 64 → IsPut answer rows at → ((a : ℕ) → at ≤ a → answer a ≡ None) → IsSheet rows × ((a : ℕ) → holder rows a ≡ answer a)
put_sheet answer rows at fits put none =
    let all = put_all answer rows at put none in (
      record {
        laid = laid_higher rows 0 at (2 ^ 64) fits put.laid;
        ended = ended_in answer rows 0 at put.laid (λ a h. all a) put.ends;
      },
      λ a. sym (all a),
    )

-- a row alone is a sheet
pub few_sheet : (rows : List Row) → length rows < 2 → IsNumbered 0 rows → IsSheet rows
few_sheet [] h numbered = record { laid = omega arith; ended = tt }
few_sheet (r ∷ []) h numbered = record { laid = (omega arith, numbered.1, numbered.2); ended = (λ e. none-some r.number e, tt) }
few_sheet (r ∷ s ∷ rows) h numbered = absurd (omega (arith, h))

numbered_weaker : (rows : List Row) (i j : ℕ) → j ≤ i → IsNumbered i rows → IsNumbered j rows
numbered_weaker [] i j le h = tt
numbered_weaker (r ∷ rows) i j le h = let from = h.0 in (omega arith, h.1, h.2, h.3)

-- one that answers has a number from i on
numbered_from : (rows : List Row) (i a n : ℕ) → IsNumbered i rows → holder rows a ≡ Some n → i ≤ n
numbered_from [] i a n h e = absurd (none-some n e)
numbered_from (r ∷ rows) i a n h e =
    let from = h.0 in
    elim (cases_Bool (has_row a r)) as (λ _. i ≤ n) [
      | inl has_it ↦
          let number = same_Some r.number n (sym (cond-true (has_row a r) (Some r.number) (holder rows a) has_it) ∙ e) in
          omega (arith, number)
      | inr has_not ↦
          let rest = numbered_from rows (r.number + 1) a n h.3 (sym (cond-false (has_row a r) (Some r.number) (holder rows a) has_not) ∙ e) in
          omega arith
    ]

-- the numbers of the first rows are below those of the others
pub record IsSplit (i : ℕ) (xs ys : List Row) : Type 0 where
  pub bound : ℕ
  pub above : i ≤ bound
  pub first : IsNumbered i xs
  pub below : (a n : ℕ) → holder xs a ≡ Some n → n < bound
  pub others : IsNumbered bound ys

below_bound : (x : Row) (xs : List Row) (bound a n : ℕ) → x.number < bound → ((b m : ℕ) → holder xs b ≡ Some m → m < bound) → holder (x ∷ xs) a ≡ Some n → n < bound
below_bound x xs bound a n h rest e = elim (cases_Bool (has_row a x)) as (λ _. n < bound) [
  | inl has_it ↦
      let number = same_Some x.number n (sym (cond-true (has_row a x) (Some x.number) (holder xs a) has_it) ∙ e) in
      omega (arith, number, h)
  | inr has_not ↦ rest a n (sym (cond-false (has_row a x) (Some x.number) (holder xs a) has_not) ∙ e)
]

pub split_numbers : (xs ys : List Row) (i : ℕ) → IsNumbered i (xs ++ ys) → IsSplit i xs ys
split_numbers [] ys i h = record { bound = i; above = omega arith; first = tt; below = λ a n e. absurd (none-some n e); others = h }
split_numbers (x ∷ xs) ys i h =
    let rest = split_numbers xs ys (x.number + 1) h.3 in
    let up = rest.above in
    let from = h.0 in
    record {
      bound = rest.bound;
      above = omega arith;
      first = (from, h.1, h.2, rest.first);
      below = λ a n e. below_bound x xs rest.bound a n (omega arith) rest.below e;
      others = rest.others;
    }

-- so no number is in both
pub split_strange : (xs ys over under : List Row) → IsSplit 0 xs ys → ((a : ℕ) → holder over a ≡ holder xs a) → ((a : ℕ) → holder under a ≡ holder ys a) → AreStrange over under
split_strange xs ys over under s first second a b n p q =
    let below = s.below a n (sym (first a) ∙ p) in
    let from = numbered_from ys s.bound b n s.others (sym (second b) ∙ q) in
    omega arith

pub split_others : (xs ys : List Row) → IsSplit 0 xs ys → IsNumbered 0 ys
split_others xs ys s = numbered_weaker ys s.bound 0 (omega arith) s.others

-- the two halves answer as all
pub split_same : (xs ys over under : List Row) (a : ℕ) → holder over a ≡ holder xs a → holder under a ≡ holder ys a → either_holder over under a ≡ holder (xs ++ ys) a
split_same xs ys over under a first second = ap (λ o. or_else o (holder under a)) first ∙ ap (or_else (holder xs a)) second ∙ sym (holder_append xs ys a)

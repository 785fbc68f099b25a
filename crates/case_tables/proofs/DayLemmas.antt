-- The days of the calendar are those of its day numbers.
use Rattle.std.proofs.Common.{◌≡◌, ℕ, zero, suc, ◌+◌, ◌<◌, ◌≤◌, nat_lt, sym, ap, ◌∙◌, arith, rules, inl, inr, pos, ◌≤ℤ◌}
use Rattle.std.proofs.lemmas.Bool.{cond_both, ltb-true, ltb-false, cases_order}
use Rattle.jiff_core.specs.declared.civil.date.Date.{Date}
use Rattle.jiff_core.specs.Calendar.{IsCivilDate, days_from_civil, days_in_month, day_count}
use Rattle.jiff_core.specs.Date.{epoch_day}
use Rattle.jiff_core.proofs.SignedLemmas.{signed_arith}
use Rattle.jiff_core.proofs.CalendarLemmas.{days_in_month_bounds}
use Rattle.jiff_core.proofs.DateLemmas.{epoch_day_injective, days_from_civil-day, days_from_civil-next_month, days_from_civil-next_year, days_from_civil-max}
use Rattle.case_tables.specs.declared.days.Day.{Day}
use Rattle.case_tables.specs.Days.{day_after}

-- a day of the calendar, and its number
abbrev pub IsNumbered : ℕ → Day → Type 0
IsNumbered n d = IsCivilDate (pos d.year) d.month d.day × (days_from_civil (pos d.year) d.month d.day ≡ pos n)

in_month : (d : Day) (n : ℕ) → IsNumbered n d → d.day < days_in_month (pos d.year) d.month → IsNumbered (suc n) (record { year = d.year; month = d.month; day = d.day + 1 })
in_month d n h lt =
    let moved = days_from_civil-day (pos d.year) d.month d.day (d.day + 1) h.0.2.0 (omega arith) in
    ((h.0.0, h.0.1, (omega arith, omega arith)), omega (arith, signed_arith, moved, h.1))

in_year : (d : Day) (n : ℕ) → IsNumbered n d → days_in_month (pos d.year) d.month ≤ d.day → d.month < 12 → IsNumbered (suc n) (record { year = d.year; month = d.month + 1; day = 1 })
in_year d n h last lt =
    let moved = days_from_civil-next_month (pos d.year) d.month d.day h.0.1.0 (omega (arith, h.0.2.1)) in
    let long = days_in_month_bounds (pos d.year) (d.month + 1) in
    ((h.0.0, (omega arith, omega arith), (omega arith, omega (arith, long.1))), omega (arith, signed_arith, moved, h.1))

-- the last day of a year that is not the last one
not_last : (y n : ℕ) → pos y ≤ℤ pos 9999 → days_from_civil (pos y) 12 31 ≡ pos n → n < 2_932_896 → y < 9999
not_last y n most is lt =
    elim (cases_order y 9999) [
      | inr (inl less) ↦ less
      | inl same ↦ absurd (omega (arith, signed_arith, days_from_civil-max, sym (ap (λ (k : ℕ). days_from_civil (pos k) 12 31) same) ∙ is))
      | inr (inr more) ↦ absurd (omega (arith, signed_arith, most))
    ]

at_end : (y n : ℕ) → pos y ≤ℤ pos 9999 → days_from_civil (pos y) 12 31 ≡ pos n → suc n ≤ 2_932_896 → IsNumbered (suc n) (record { year = y + 1; month = 1; day = 1 })
at_end y n most is le =
    let less = not_last y n most is (omega arith) in
    let moved = days_from_civil-next_year (pos y) (pos (y + 1)) (omega (arith, signed_arith)) (omega (arith, signed_arith)) in
    (((omega (arith, signed_arith), omega (arith, signed_arith)), (omega arith, omega arith), (omega arith, omega arith)), omega (arith, signed_arith, moved, is))

out_of_year : (d : Day) (n : ℕ) → IsNumbered n d → suc n ≤ 2_932_896 → days_in_month (pos d.year) d.month ≤ d.day → 12 ≤ d.month → IsNumbered (suc n) (record { year = d.year + 1; month = 1; day = 1 })
out_of_year d n h le last full =
    let december : d.month ≡ 12 = omega (arith, h.0.1.1) in
    let last_two : days_in_month (pos d.year) 12 ≤ d.day = rw december at last in
    let most : d.day ≤ days_in_month (pos d.year) 12 = rw december at h.0.2.1 in
    let thirty_one : d.day ≡ 31 = omega arith in
    at_end d.year n h.0.0.1 (rw (← december, ← thirty_one) h.1) le

pub numbered : (n : ℕ) → n ≤ 2_932_896 → IsNumbered n (day_after n)
unfolding day_after days_from_civil day_count
numbered zero le = (search rules, search rules)
numbered (suc n) le =
    let h = numbered n (omega arith) in
    let d = day_after n in
    cond_both (nat_lt d.day (days_in_month (pos d.year) d.month)) _ _ (IsNumbered (suc n))
    (λ e. in_month d n h (ltb-true _ _ e))
    (λ e. cond_both (nat_lt d.month 12) _ _ (IsNumbered (suc n))
    (λ f. in_year d n h (ltb-false _ _ e) (ltb-true _ _ f))
    (λ f. out_of_year d n h le (ltb-false _ _ e) (ltb-false _ _ f)))

abbrev pub date_at : (d : Day) → IsCivilDate (pos d.year) d.month d.day → Date
date_at d is = record { year = pos d.year; month = d.month; day = d.day; year_in = is.0; month_in = is.1; day_in = is.2 }

-- a date of this number is that day
pub date_is : (x : Date) (n : ℕ) → n ≤ 2_932_896 → epoch_day x ≡ pos n → (x.year ≡ pos (day_after n).year) × (x.month ≡ (day_after n).month) × (x.day ≡ (day_after n).day)
date_is x n le is =
    let h = numbered n le in
    epoch_day_injective x (date_at (day_after n) h.0) (is ∙ sym h.1)

-- 1970-01-01 has the number 0
pub first_day : (x : Date) → x.year ≡ pos 1970 → pos x.month ≡ pos 1 → pos x.day ≡ pos 1 → epoch_day x ≡ pos 0
unfolding days_from_civil day_count
first_day x year month day =
    let first_month : x.month ≡ 1 = omega (arith, signed_arith, month) in
    let first : x.day ≡ 1 = omega (arith, signed_arith, day) in
    rw (year, first_month, first) (omega (arith, signed_arith))

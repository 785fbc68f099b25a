-- The cores of an archive by day.
use Rattle.std.specs.Prelude.{ℕ, ◌+◌, ◌-◌, ◌*◌, ◌/◌, ◌==◌, ◌&&◌, not, max, Bool, true, false, nat_le, nat_lt, min, if◌then◌else◌, List, [], ◌∷◌, ◌++◌, length, map, filter, replicate, codes, decimal}
use Rattle.case_tables.specs.Table.{greatest, spaces}
use Rattle.case_tables.specs.Times.{day_text}
use Rattle.journal_layout.specs.Case.{Case}
use Rattle.journal_layout.specs.declared.entry.Kind.{Kind}
use Rattle.journal_layout.specs.declared.entry.Kind.TheVariants.{Core, Exec}

abbrev pub is_core : Kind → Bool
is_core Core = true
is_core Exec = false

-- a core of the day that is so many days before that one; the time 0 is of no day
abbrev pub is_core_before : ℕ → ℕ → Case → Bool
is_core_before day back c = is_core c.origin.kind && (not (c.origin.time == 0) && c.origin.time / 86_400 + back == day)

abbrev pub count_before : ℕ → ℕ → List Case → ℕ
count_before day back cases = length (filter (is_core_before day back) cases)

-- how many are of each of the seven days up to that of this time
abbrev pub cores_by_day : ℕ → List Case → List ℕ
cores_by_day newest cases = map (λ back. count_before (newest / 86_400) back cases) (6 ∷ 5 ∷ 4 ∷ 3 ∷ 2 ∷ 1 ∷ 0 ∷ [])

-- how many marks stand for a count: one for each, or fewer in proportion if the highest count is over 40
abbrev pub bar_length : ℕ → ℕ → ℕ
bar_length most count = if nat_le most 40 then count else count * 40 / most

abbrev pub bar_text : ℕ → List ℕ
bar_text n = if nat_lt 0 n then codes "  " ++ replicate n 35 else []

-- a number at the right of six letters
abbrev pub count_text : ℕ → List ℕ
count_text count = spaces (6 - length (decimal count)) ++ decimal count

-- the text before a row: the first one has the name of the line
abbrev pub row_label : ℕ → ℕ → List ℕ
row_label day back = if back == min day 6 then codes "days      " else codes "          "

-- the row of the day that is so many days before that one; there is no day before 1970-01-01
abbrev pub day_row : ℕ → ℕ → ℕ → ℕ → List ℕ
day_row most day back count =
    if nat_lt day back then [] else row_label day back ++ (day_text (day - back) ++ (count_text count ++ (bar_text (bar_length most count) ++ 10 ∷ [])))

-- a row for each count, the last one of that day
abbrev pub rows_text : ℕ → ℕ → List ℕ → List ℕ
rows_text most day [] = []
rows_text most day (count ∷ counts) = day_row most day (length counts) count ++ rows_text most day counts

-- no row, if no core has a time
abbrev pub days_text : ℕ → List ℕ → List ℕ
days_text newest counts = if newest == 0 then [] else rows_text (greatest counts) (newest / 86_400) counts

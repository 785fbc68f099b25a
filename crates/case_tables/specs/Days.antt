-- The days of the calendar by their numbers.
use Rattle.std.specs.Prelude.{ℕ, zero, suc, ◌+◌, nat_lt, nat_le, if◌then◌else◌, Option, Some, None, pos}
use Rattle.jiff_core.specs.Calendar.{days_in_month}
use Rattle.case_tables.specs.declared.days.Day.{Day}

-- the day after a day: of the same month, or the first of the next one, or of the next year
abbrev pub next_day : Day → Day
next_day d =
    if nat_lt d.day (days_in_month (pos d.year) d.month) then record { year = d.year; month = d.month; day = d.day + 1 }
    else (if nat_lt d.month 12 then record { year = d.year; month = d.month + 1; day = 1 }
    else record { year = d.year + 1; month = 1; day = 1 })

-- the day that is so many days after 1970-01-01
unfoldable pub day_after : ℕ → Day
day_after zero = record { year = 1970; month = 1; day = 1 }
day_after (suc n) = next_day (day_after n)

-- the same, up to 9999-12-31
abbrev pub dated : ℕ → Option Day
dated n = if nat_le n 2_932_896 then Some (day_after n) else None

-- Times in words.
use Rattle.std.specs.Prelude.{ℕ, ◌+◌, ◌/◌, ◌%◌, ◌==◌, if◌then◌else◌, List, [], ◌∷◌, ◌++◌, Option, Some, None, codes, decimal}
use Rattle.case_tables.specs.declared.days.Day.{Day}
use Rattle.case_tables.specs.declared.zones.PlaceClock.{PlaceClock}
use Rattle.case_tables.specs.declared.zones.Zone.{Zone}
use Rattle.case_tables.specs.Days.{dated}
use Rattle.case_tables.specs.Zones.{clock_at}

-- the last two digits of a number
abbrev pub two_digits : ℕ → List ℕ
two_digits n = (48 + n / 10 % 10) ∷ (48 + n % 10) ∷ []

-- `2026-11-25`
abbrev pub date_text : Day → List ℕ
date_text d =
    two_digits (d.year / 100) ++ (two_digits (d.year % 100) ++ (codes "-" ++ (two_digits d.month ++ (codes "-" ++ two_digits d.day))))

abbrev pub known_day : Option Day → List ℕ
known_day (Some d) = date_text d
known_day None = codes "-"

-- a day by its number
abbrev pub day_text : ℕ → List ℕ
day_text n = known_day (dated n)

-- `14:03:11`, of the seconds since midnight
abbrev pub clock_text : ℕ → List ℕ
clock_text n = two_digits (n / 3600) ++ (codes ":" ++ (two_digits (n / 60 % 60) ++ (codes ":" ++ two_digits (n % 60))))

-- `2026-11-25 14:03:11Z`
abbrev pub moment_text : Day → ℕ → List ℕ
moment_text d n = date_text d ++ (codes " " ++ (clock_text n ++ codes "Z"))

-- its moment, or `@` and the seconds if the calendar has no such day
abbrev pub dated_text : Option Day → ℕ → List ℕ
dated_text (Some d) time = moment_text d (time % 86_400)
dated_text None time = codes "@" ++ decimal time

-- seconds since the epoch as a moment; `-` for 0, which no core has that was made now
abbrev pub time_text : ℕ → List ℕ
time_text time = if time == 0 then codes "-" else dated_text (dated (time / 86_400)) time

-- `2026-11-27 11:00:00+01:00`
abbrev pub place_text : PlaceClock → List ℕ
place_text c =
    date_text c.day ++ (codes " " ++ (clock_text c.seconds ++ ((if c.is_behind then codes "-" else codes "+")
    ++ (two_digits (c.minutes / 60) ++ (codes ":" ++ two_digits (c.minutes % 60))))))

-- what a clock shows at a time, or the time in UTC
abbrev pub shown_time : Option PlaceClock → ℕ → List ℕ
shown_time (Some c) time = place_text c
shown_time None time = time_text time

-- a time as the clock of a zone shows it
abbrev pub time_in : Zone → ℕ → List ℕ
time_in zone time = shown_time (clock_at zone time) time

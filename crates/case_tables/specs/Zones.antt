-- What the clock of a place shows, and when its days begin.
use Rattle.std.specs.Prelude.{◌≡◌, ℕ, ◌+◌, ◌-◌, ◌/◌, ◌%◌, ◌==◌, ◌||◌, ◌+ℤ◌, ◌*ℤ◌, Bool, nat_le, nat_lt, if◌then◌else◌, Option, Some, None, Ok, ℤ, pos, int_div, int_lt, unsigned_abs}
use Rattle.std.specs.Option.{option_and_then}
use Rattle.jiff_core.specs.DateTime.{civil_nanos}
use Rattle.jiff_core.specs.Timestamp.{nanos_of_seconds}
use Rattle.jiff_core.specs.declared.civil.date.Date.{Date}
use Rattle.jiff_core.specs.declared.civil.datetime.DateTime.{DateTime}
use Rattle.jiff.specs.Placed.{IsDateIn}
use Rattle.jiff.specs.Words.{offset_at, plain_zoned}
use Rattle.jiff.specs.declared.tz.timezone.TimeZone.{TimeZone}
use Rattle.jiff.specs.declared.zoned.Zoned.{Zoned}
use Rattle.jiff.specs.ZoneView.{plain_zone}
use Rattle.case_tables.specs.declared.days.Day.{Day}
use Rattle.case_tables.specs.declared.zones.PlaceClock.{PlaceClock}
use Rattle.case_tables.specs.declared.zones.Zone.{Zone}
use Rattle.case_tables.specs.declared.zones.Zone.TheVariants.{Utc, Local}
use Rattle.case_tables.specs.Days.{dated}

-- so many seconds before a time, which is not before the epoch, or after it
abbrev pub moved : Bool → ℕ → ℕ → Option ℕ
moved is_behind time seconds = if is_behind then (if nat_le seconds time then Some (time - seconds) else None) else Some (time + seconds)

-- a time of a day of the calendar, and how many minutes it is behind UTC or ahead of it
abbrev pub clock_on : Option Day → ℕ → Bool → ℕ → Option PlaceClock
clock_on None seconds is_behind minutes = None
clock_on (Some d) seconds is_behind minutes = Some (record { day = d; seconds = seconds; is_behind = is_behind; minutes = minutes })

-- the day and the seconds of a time that is shown
abbrev pub clock_from : Option ℕ → Bool → ℕ → Option PlaceClock
clock_from None is_behind seconds = None
clock_from (Some shown) is_behind seconds = clock_on (dated (shown / 86_400)) (shown % 86_400) is_behind (seconds / 60)

-- the same of a clock that is behind UTC or ahead of it by these seconds, which are whole minutes
abbrev pub clock_by : ℕ → Bool → ℕ → Option PlaceClock
clock_by time is_behind seconds = if seconds % 60 == 0 then clock_from (moved is_behind time seconds) is_behind seconds else None

-- what a clock shows at a time that is ahead of UTC by these seconds
abbrev pub clock_of : ℕ → ℤ → Option PlaceClock
clock_of time offset = clock_by time (int_lt offset (pos 0)) (unsigned_abs offset)

-- What the clock of a zone shows at a time: the time and the zone's offset then, of up to 9999-12-30 22:00 UTC. None in UTC.
abbrev pub clock_at : Zone → ℕ → Option PlaceClock
clock_at Utc time = None
clock_at (Local zone) time =
    if (time == 0) || nat_lt 253_402_207_200 time then None else clock_of time (offset_at (plain_zone zone) (pos time *ℤ pos 1_000_000_000))

-- the day that the clock of a place shows at a time
abbrev pub IsDateAt : TimeZone → ℕ → Date → Type 0
IsDateAt zone time day =
    (shown : DateTime) × (shown.date ≡ day)
    × (civil_nanos shown ≡ pos time *ℤ pos 1_000_000_000 +ℤ nanos_of_seconds (offset_at (plain_zone zone) (pos time *ℤ pos 1_000_000_000)))

-- The second at which a day begins on the clock of a place: its midnight as `jiff` has it, which may be one that the clock skips.
abbrev pub IsMidnight : TimeZone → Date → ℕ → Type 0
IsMidnight zone day second =
    (start : Zoned) × IsDateIn day (plain_zone zone) (Ok start) × (pos second ≡ int_div (plain_zoned start).timestamp.nanosecond (pos 1_000_000_000))

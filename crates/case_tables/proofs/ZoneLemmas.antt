-- When the days of a place begin.
use Rattle.std.proofs.Common.{◌≡◌, ℕ, ℤ, pos, negsuc, Option, None, Some, Result, Ok, Err, OkIff, IfSome, int_div, unsigned_abs, ap, ◌∙◌}
use Rattle.std.specs.Int.{FitsUnsignedBits}
use Rattle.std.specs.Result.{result_ok}
use Rattle.jiff_core.specs.declared.civil.date.Date.{Date}
use Rattle.jiff.specs.Placed.{IsDateIn}
use Rattle.jiff.specs.Words.{plain_zoned}
use Rattle.jiff.specs.ZonedDays.{IsDayBefore}
use Rattle.jiff.specs.ZoneView.{plain_zone}
use Rattle.jiff.specs.declared.tz.timezone.TimeZone.{TimeZone}
use Rattle.jiff.specs.declared.zoned.Zoned.{Zoned}
use Rattle.case_tables.specs.Filters.{StartsDay, StartsDayBefore}
use Rattle.case_tables.specs.Zones.{IsDateAt, IsMidnight}
use Rattle.case_tables.specs.declared.zones.Zone.TheVariants.{Local}

-- the second of a start of a day, if it is not before the epoch
pub midnight_of : {E : Type 0} (zone : TimeZone) (day : Date) (start : Zoned) (r : Result ℕ E) (second : ℤ) → IsDateIn day (plain_zone zone) (Ok start)
    → second ≡ int_div (plain_zoned start).timestamp.nanosecond (pos 1_000_000_000) → OkIff r (FitsUnsignedBits 64 second) (unsigned_abs second) → IfSome (result_ok r) (IsMidnight zone day)
midnight_of zone day start (Ok s) (pos n) is at h = (start, is, ap pos h.1 ∙ at)
midnight_of zone day start (Ok s) (negsuc n) is at h = absurd h.0
midnight_of zone day start (Err e) second is at h = _

pub starts_day : (zone : TimeZone) (time : ℕ) (day : Date) → IsDateAt zone time day → (r : Option ℕ) → IfSome r (IsMidnight zone day) → StartsDay (Local zone) time r
starts_day zone time day at None is = _
starts_day zone time day at (Some s) is = (day, at, is)

pub starts_before : (zone : TimeZone) (time : ℕ) (day before : Date) → IsDateAt zone time day → IsDayBefore day before → (r : Option ℕ) → IfSome r (IsMidnight zone before) → StartsDayBefore (Local zone) time r
starts_before zone time day before at earlier None is = _
starts_before zone time day before at earlier (Some s) is = (day, before, at, earlier, is)

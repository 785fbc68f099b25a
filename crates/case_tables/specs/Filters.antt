-- The meaning of the values of `list`'s filters: a signal, and a time.
use Rattle.std.specs.Prelude.{◌≡◌, ◌≢◌, ◌⊎◌, ℕ, ◌*◌, ◌-◌, ◌%◌, ◌^◌, ◌<◌, ◌≤◌, ◌==◌, List, [], ◌∷◌, ◌++◌, Option, None, Some, codes, if◌then◌else◌, IfSome}
use Rattle.std.specs.Option.{option_map}
use Rattle.script_words.specs.Number.{number_of}
use Rattle.thread_regs.specs.SignalNames.{numbered_name}
use Rattle.case_tables.specs.declared.zones.Zone.{Zone}
use Rattle.case_tables.specs.declared.zones.Zone.TheVariants.{Utc, Local}
use Rattle.case_tables.specs.Zones.{IsDateAt, IsMidnight}
use Rattle.jiff.specs.ZonedDays.{IsDayBefore}
use Rattle.jiff_core.specs.declared.civil.date.Date.{Date}

-- no signal has this name
abbrev pub IsNoName : List ℕ → Type 0
IsNoName name = (n : ℕ) → numbered_name n ≡ Some name → ⊥

-- A signal by its name, without SIG, or else by its number, which has 32 bits.
abbrev pub IsSignal : List ℕ → List ℕ → Option ℕ → Type 0
IsSignal name text (Some n) = (numbered_name n ≡ Some name) ⊎ (IsNoName name × (number_of text ≡ Some n) × (n < 2 ^ 32))
IsSignal name text None = IsNoName name × ((n : ℕ) → number_of text ≡ Some n → 2 ^ 32 ≤ n)

-- The same if the name may have SIG before it.
pub record SaysSignal (text : List ℕ) (r : Option ℕ) : Type 0 where
  pub prefixed : (name : List ℕ) → text ≡ codes "SIG" ++ name → IsSignal name text r
  pub plain : ((name : List ℕ) → text ≢ codes "SIG" ++ name) → IsSignal text text r

-- how many seconds there are in a unit: `s`, `m`, `h` or `d`
abbrev pub seconds_in : ℕ → Option ℕ
seconds_in unit =
    if unit == 115 then Some 1
    else if unit == 109 then Some 60
    else if unit == 104 then Some 3600
    else if unit == 100 then Some 86400 else None

-- when the day of a time began, in UTC
abbrev pub day_start : ℕ → ℕ
day_start t = t - t % 86400

-- when the day of a time began on the clock of a zone, if `jiff` knows
abbrev pub StartsDay : Zone → ℕ → Option ℕ → Type 0
StartsDay Utc time r = r ≡ Some (day_start time)
StartsDay (Local zone) time r = IfSome r (λ second. (day : Date) × IsDateAt zone time day × IsMidnight zone day second)

-- the same of the day before
abbrev pub StartsDayBefore : Zone → ℕ → Option ℕ → Type 0
StartsDayBefore Utc time r = r ≡ Some (day_start time - 86400)
StartsDayBefore (Local zone) time r =
    IfSome r (λ second. (day : Date) × (before : Date) × IsDateAt zone time day × IsDayBefore day before × IsMidnight zone before second)

-- what holds at the time that the clock gives; no time, if it gives none
abbrev pub AtTime : (ℕ → Option ℕ → Type 0) → Option ℕ → Option ℕ → Type 0
AtTime Holds None r = r ≡ None
AtTime Holds (Some time) r = Holds time r

-- A time in seconds: the number after `@`, as it stands; the start of this day or of the one before, in a zone; or so many units before now.
-- The earliest is the epoch. The meaning of a calendar date is left open.
pub record SaysTime (zone : Zone) (now : Option ℕ) (text : List ℕ) (r : Option ℕ) : Type 0 where
  pub at : (seconds : List ℕ) → text ≡ codes "@" ++ seconds → r ≡ number_of seconds
  pub ago : (count : List ℕ) (unit n k : ℕ) → text ≡ count ++ unit ∷ [] → seconds_in unit ≡ Some k → number_of count ≡ Some n → n * k < 2 ^ 64
      → r ≡ option_map (λ (t : ℕ). t - n * k) now
  pub today : text ≡ codes "today" → AtTime (StartsDay zone) now r
  pub yesterday : text ≡ codes "yesterday" → AtTime (StartsDayBefore zone) now r

-- The meaning of the values of a configuration.
use Rattle.std.specs.Prelude.{ℕ, ℤ, pos, negsuc, ◌*◌, ◌^◌, ◌-◌, ◌==◌, nat_lt, Bool, false, List, length, take, slice_index, codes, Option, None, Some, if◌then◌else◌}
use Rattle.std.specs.Option.{option_and_then}
use Rattle.script_words.specs.Number.{number_of}
use Rattle.core_handler.specs.declared.config.Burst.{Burst}
use Rattle.toml.specs.Data.{Data, as_str, as_integer, as_bool, get}

-- a number that is not negative
abbrev pub natural_of : ℤ → Option ℕ
natural_of (pos n) = Some n
natural_of (negsuc n) = None

abbrev pub natural_in : Data → Option ℕ
natural_in d = option_and_then natural_of (as_integer d)

-- the seconds of a unit: `s`, `m`, `h` or `d`
abbrev pub unit_of : ℕ → Option ℕ
unit_of c =
    if c == 115 then Some 1
    else (if c == 109 then Some 60
    else (if c == 104 then Some 3600
    else (if c == 100 then Some 86400
    else None)))

-- so many of a unit, in seconds, if that has 64 bits
abbrev pub times : ℕ → ℕ → Option ℕ
times seconds n = if nat_lt (n * seconds) (2 ^ 64) then Some (n * seconds) else None

abbrev pub age_by : Option ℕ → List ℕ → Option ℕ
age_by None digits = None
age_by (Some seconds) digits = option_and_then (times seconds) (number_of digits)

-- An age in seconds: a number and its unit, as `90s`, `45m`, `12h` or `30d`.
abbrev pub age_of : List ℕ → Option ℕ
age_of text =
    if length text == 0 then None
    else age_by (unit_of (slice_index text (length text - 1))) (take (length text - 1) text)

abbrev pub age_in : Data → Option ℕ
age_in d = option_and_then age_of (as_str d)

-- the values of a key
abbrev pub text_at : List ℕ → Data → Option (List ℕ)
text_at key document = option_and_then as_str (get key document)

abbrev pub natural_at : List ℕ → Data → Option ℕ
natural_at key document = option_and_then natural_in (get key document)

abbrev pub age_at : List ℕ → Data → Option ℕ
age_at key document = option_and_then age_in (get key document)

abbrev pub burst_by : Option ℕ → Option ℕ → Option Burst
burst_by (Some most) (Some seconds) = Some (record { most = most; seconds = seconds })
burst_by (Some most) None = None
burst_by None seconds = None

-- So many cores in so many seconds: a table with the numbers `most` and `seconds`.
abbrev pub burst_in : Data → Option Burst
burst_in d = burst_by (natural_at (codes "most") d) (natural_at (codes "seconds") d)

abbrev pub burst_at : List ℕ → Data → Option Burst
burst_at key document = option_and_then burst_in (get key document)

abbrev pub is_set : Option Bool → Bool
is_set None = false
is_set (Some flag) = flag

abbrev pub flag_at : List ℕ → Data → Bool
flag_at key document = is_set (option_and_then as_bool (get key document))

-- Sizes in words.
use Rattle.std.specs.Prelude.{ℕ, ◌*◌, ◌/◌, ◌%◌, nat_lt, if◌then◌else◌, List, ◌++◌, codes, decimal}

-- in units, with one decimal, cut
abbrev pub in_units : ℕ → ℕ → List ℕ
in_units unit n = decimal (n / unit) ++ (codes "." ++ decimal (n % unit * 10 / unit))

-- bytes in the largest unit of which there is at least one: B, KiB, MiB or GiB
abbrev pub size_text : ℕ → List ℕ
size_text n =
    if nat_lt n 1_024 then decimal n ++ codes " B"
    else (if nat_lt n 1_048_576 then in_units 1_024 n ++ codes " KiB"
    else (if nat_lt n 1_073_741_824 then in_units 1_048_576 n ++ codes " MiB"
    else in_units 1_073_741_824 n ++ codes " GiB"))

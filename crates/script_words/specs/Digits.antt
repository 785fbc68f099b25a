-- One more digit of a numeral.
use Rattle.std.specs.Prelude.{ℕ, ◌+◌, ◌*◌, ◌^◌, ◌&&◌, nat_lt, Option, None, Some, if◌then◌else◌}
use Rattle.std.specs.Char.{digit_value, is_digit}

-- the number of the digits of n and one more
abbrev pub next_value : ℕ → ℕ → ℕ → Option ℕ
next_value base n c =
    if is_digit c base && nat_lt (n * base + digit_value c) (2 ^ 64) then Some (n * base + digit_value c) else None

-- Whose a core is, by its name: `core.USER.REST.PID.TIME`, as the template `core.%u.%h.%e.%p.%t` makes it.
use Rattle.std.specs.Prelude.{ℕ, ◌==◌, Bool, false, ◌&&◌, List, [], ◌∷◌, take, drop, Option, None, Some, option_map, codes, nat_eq, if◌then◌else◌}
use Rattle.std.specs.Char.{is_ascii_digit}
use Rattle.std.specs.List.{list_all, position, starts_with}

abbrev pub are_digits : List ℕ → Bool
are_digits text = list_all is_ascii_digit text

-- digits, one at least
abbrev pub is_number : List ℕ → Bool
is_number [] = false
is_number (d ∷ ds) = are_digits (d ∷ ds)

-- a dot, and then a number
abbrev pub is_last_part : List ℕ → Bool
is_last_part [] = false
is_last_part (b ∷ bs) = b == 46 && is_number bs

-- the bytes before such a part that ends them
abbrev pub before_number : List ℕ → Option (List ℕ)
before_number [] = None
before_number (b ∷ bs) = if is_last_part (b ∷ bs) then Some [] else option_map (λ front. b ∷ front) (before_number bs)

abbrev pub or_whole : List ℕ → Option (List ℕ) → List ℕ
or_whole whole None = whole
or_whole whole (Some front) = front

abbrev pub before_both : List ℕ → Option (List ℕ) → List ℕ
before_both name None = name
before_both name (Some front) = or_whole name (before_number front)

-- The program of a name, with its user and its host: the name without its last two parts, if each of them is a dot and a number, as the
-- process and the time are; else the whole name.
abbrev pub program_of : List ℕ → List ℕ
program_of name = before_both name (before_number name)

-- the first so many bytes, if they are digits
abbrev pub digits_or_none : List ℕ → List ℕ
digits_or_none text = if are_digits text then text else []

-- the digits before the first dot, or to the end, if there is no dot; nothing, if other bytes are among them
abbrev pub up_to_dot : List ℕ → Option ℕ → List ℕ
up_to_dot text None = digits_or_none text
up_to_dot text (Some n) = digits_or_none (take n text)

-- where the first dot is
abbrev pub dot_in : List ℕ → Option ℕ
dot_in text = position (λ b. b == 46) text

-- the user of such a front of a name: the digits between `core.` and the next dot, or the end
abbrev pub user_in : List ℕ → List ℕ
user_in front = if starts_with nat_eq front (codes "core.") then up_to_dot (drop 5 front) (dot_in (drop 5 front)) else []

-- The user of a name. It is empty if the name has none: all such names count as one user's.
abbrev pub user_of : List ℕ → List ℕ
user_of name = user_in (program_of name)

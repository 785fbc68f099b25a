-- The times of cores that may be right. A page has no clock: the times of
-- the cores that were stored after a core limit the time that it can have.
use Rattle.std.specs.Prelude.{ℕ, ◌+◌, ◌*◌, ◌^◌, ◌-◌, Bool, ◌&&◌, ◌||◌, nat_le, nat_lt, List, [], ◌∷◌, filter, length, min, if◌then◌else◌}

-- not before the year 2000
abbrev pub is_dated : ℕ → Bool
is_dated t = nat_le 946_684_800 t

-- The time of a core that was stored later bears out a time that is at most a day after it.
abbrev pub bears_out : ℕ → ℕ → Bool
bears_out t later = nat_le t (later + 86_400)

abbrev pub support : ℕ → List ℕ → ℕ
support t later = length (filter (bears_out t) later)

-- It is plausible if fewer than three cores were stored later, or half of their times bear it out.
abbrev pub is_plausible : ℕ → List ℕ → Bool
is_plausible t later = nat_lt (length later) 3 || nat_le (length later) (2 * support t later)

-- the newest of the plausible times, in the order in which the cores were stored; 0 if there are no such times
abbrev pub newest_of : List ℕ → ℕ
newest_of [] = 0
newest_of (t ∷ ts) = if nat_lt (newest_of ts) t && is_plausible t ts then t else newest_of ts

-- The latest time that counts: a day after the newest plausible one of those that are not before the year 2000.
abbrev pub latest_of : List ℕ → ℕ
latest_of ts = min (newest_of (filter is_dated ts) + 86_400) (2 ^ 64 - 1)

-- The fields in the name of a core: `core.USER.HOST.PROGRAM.PID.TIME`, as the handler's template makes it.
use Rattle.std.specs.Prelude.{ℕ, ◌+◌, ◌==◌, ◌^◌, ◌&&◌, Bool, false, not, nat_eq, nat_lt, List, [], ◌∷◌, length, drop, Option, None, Some, if◌then◌else◌}
use Rattle.std.specs.List.{starts_with}
use Rattle.fair_share.specs.Owners.{program_of, user_of}
use Rattle.journal_layout.specs.Case.{Case}
use Rattle.script_words.specs.Number.{number_of}

-- a number of 32 bits
abbrev pub of_32_bits : Option ℕ → Option ℕ
of_32_bits None = None
of_32_bits (Some n) = if nat_lt n (2 ^ 32) then Some n else None

-- the user's number: the digits behind `core.`, if the name ends in two numbers
abbrev pub user_in : Case → Option ℕ
user_in c = of_32_bits (number_of (user_of c.origin.name))

-- a text without its first bytes
abbrev pub behind : ℕ → List ℕ → List ℕ
behind count text = if nat_lt count (length text) then drop count text else []

-- the text between `core.USER.` and the process; none if the name has no user
abbrev pub behind_user : List ℕ → List ℕ
behind_user name = if length (user_of name) == 0 then [] else behind (length (user_of name) + 6) (program_of name)

abbrev pub has_dot : List ℕ → Bool
has_dot [] = false
has_dot (b ∷ bs) = b == 46

-- The label is the host: it and a dot are behind the user.
abbrev pub has_host : Case → Bool
has_host c =
    not (length c.label == 0) && (starts_with nat_eq (behind_user c.origin.name) c.label && has_dot (behind (length c.label) (behind_user c.origin.name)))

-- the host, if it is known
abbrev pub host_in : Case → List ℕ
host_in c = if has_host c then c.label else []

-- the program; with the host before it, if that is not known
abbrev pub program_in : Case → List ℕ
program_in c = if has_host c then behind (length c.label + 1) (behind_user c.origin.name) else behind_user c.origin.name

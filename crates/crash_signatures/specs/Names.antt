-- Names of functions and files without the parts that differ from build to build.
use Rattle.std.specs.Prelude.{ℕ, ◌-◌, ◌==◌, Bool, false, ◌&&◌, ◌||◌, nat_eq, nat_le, nat_lt, List, [], ◌∷◌, ◌++◌, length, take, drop, Option, None, Some, codes, if◌then◌else◌}
use Rattle.std.specs.Char.{is_ascii_digit}
use Rattle.std.specs.List.{after_last, before_first, ends_with, list_all, slice_split, starts_with}
use Rattle.crash_signatures.specs.Tables.{endings, is_among}

abbrev pub is_dot : ℕ → Bool
is_dot b = b == 46

-- digits, one at least
abbrev pub is_number : List ℕ → Bool
is_number [] = false
is_number (d ∷ ds) = list_all is_ascii_digit (d ∷ ds)

-- a part between dots that a compiler may have added
abbrev pub is_added : List ℕ → Bool
is_added part = is_among endings part || is_number part

-- A dot, one of the compilers' endings, and after further dots endings and numbers: `.constprop.0`, `.part.0.cold`.
abbrev pub is_addition : List ℕ → Bool
is_addition [] = false
is_addition (b ∷ bs) = b == 46 && is_among endings (before_first is_dot bs) && list_all is_added (slice_split is_dot bs)

-- the bytes before the first addition that goes to the end; all of them, if there is no addition
abbrev pub before_addition : List ℕ → List ℕ
before_addition [] = []
before_addition (b ∷ bs) = if is_addition (b ∷ bs) then [] else b ∷ before_addition bs

-- a name without the text that compilers added at its end; its first byte stays
abbrev pub without_addition : List ℕ → List ℕ
without_addition [] = []
without_addition (b ∷ bs) = b ∷ before_addition bs

-- a digit of a hash
abbrev pub is_hash_digit : ℕ → Bool
is_hash_digit b = is_ascii_digit b || (nat_le 97 b && nat_le b 102)

-- The hash that ends a Rust name: `17h`, 16 digits in base 16, `E`.
abbrev pub is_hash : List ℕ → Bool
is_hash end = starts_with nat_eq end (codes "17h") && ends_with nat_eq end (codes "E") && list_all is_hash_digit (take 16 (drop 3 end))

-- where it begins
abbrev pub hash_place : List ℕ → Option ℕ
hash_place name =
    if nat_lt (length name) 20 then None
    else if is_hash (drop (length name - 20) name) then Some (length name - 20)
    else None

abbrev pub without_hash : List ℕ → Option ℕ → List ℕ
without_hash name None = name
without_hash name (Some at) = take at name ++ codes "E"

-- a name without the text that compilers added, and without the hash of a Rust name; of a name 1,024 bytes are read
abbrev pub plain_name : List ℕ → List ℕ
plain_name name = let plain = without_addition (take 1024 name) in without_hash plain (hash_place plain)

-- a path without ` (deleted)` at its end
abbrev pub without_deleted : List ℕ → List ℕ
without_deleted path = if ends_with nat_eq path (codes " (deleted)") then take (length path - 10) path else path

-- the text after the last slash
abbrev pub last_part : List ℕ → List ℕ
last_part path = after_last (λ b. b == 47) path

abbrev pub or_slash : List ℕ → List ℕ
or_slash [] = codes "/"
or_slash (b ∷ bs) = b ∷ bs

-- the last component of a path
abbrev pub base_name : List ℕ → List ℕ
base_name path = or_slash (last_part (without_deleted path))

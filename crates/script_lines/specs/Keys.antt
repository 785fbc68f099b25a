-- The words of a line that are pairs of a key and a value.
use Rattle.std.specs.Prelude.{ℕ, ◌^◌, ◌-◌, Bool, true, false, not, ◌&&◌, ◌||◌, List, [], ◌∷◌, Option, None, Some, is_some, codes, if◌then◌else◌}
use Rattle.std.specs.Str.{bytes_eq}
use Rattle.script_words.specs.Number.{number_of, number_within}
use Rattle.script_words.specs.Pairs.{pair_of}
use Rattle.script_words.specs.Text.{text_of}
use Rattle.script_lines.specs.declared.keys.Keys.{Keys}
use Rattle.script_lines.specs.declared.keys.Keys.TheVariants.{Core, Retire}
use Rattle.script_lines.specs.declared.keys.ValueKind.{ValueKind}
use Rattle.script_lines.specs.declared.keys.ValueKind.TheVariants.{Text, Small, Large}

-- the name of the command, the path of the executable and the name of the host are texts
abbrev pub is_text_key : List ℕ → Bool
is_text_key key = bytes_eq key (codes "comm") || bytes_eq key (codes "exe") || bytes_eq key (codes "host")

-- the process, the thread, the signal, the real user, the real group and the dump mode have 32 bits
abbrev pub is_small_key : List ℕ → Bool
is_small_key key =
    bytes_eq key (codes "pid") || bytes_eq key (codes "tid") || bytes_eq key (codes "sig") || bytes_eq key (codes "uid")
    || bytes_eq key (codes "gid") || bytes_eq key (codes "mode")

-- the time and the limit on the size of a core file have 64 bits
abbrev pub is_large_key : List ℕ → Bool
is_large_key key = bytes_eq key (codes "time") || bytes_eq key (codes "limit")

-- the kind of value that a key of `begin core` has
abbrev pub core_kind : List ℕ → Option ValueKind
core_kind key =
    if is_text_key key then Some Text
    else (if is_small_key key then Some Small
    else (if is_large_key key then Some Large
    else None))

-- the kind of value that a key of `retire` has
abbrev pub retire_kind : List ℕ → Option ValueKind
retire_kind key =
    if bytes_eq key (codes "keep") || bytes_eq key (codes "bytes") || bytes_eq key (codes "before") then Some Large
    else None

-- the kind of value that a key has, if the line knows the key
abbrev pub value_kind : Keys → List ℕ → Option ValueKind
value_kind Core key = core_kind key
value_kind Retire key = retire_kind key

-- the value is of the kind
abbrev pub is_good_value : Option ValueKind → List ℕ → Bool
is_good_value None value = false
is_good_value (Some Text) value = is_some (text_of value)
is_good_value (Some Small) value = is_some (number_within 0 (2 ^ 32 - 1) value)
is_good_value (Some Large) value = is_some (number_of value)

-- the value of a pair, if it is one of this key
abbrev pub value_if : List ℕ → Option (List ℕ × List ℕ) → Option (List ℕ)
value_if key None = None
value_if key (Some pair) = if bytes_eq pair.0 key then Some pair.1 else None

-- the first, or else the second
abbrev pub first_given : Option (List ℕ) → Option (List ℕ) → Option (List ℕ)
first_given None later = later
first_given (Some value) later = Some value

-- the value of the first pair of a key
abbrev pub value_of : List ℕ → List (List ℕ) → Option (List ℕ)
value_of key [] = None
value_of key (word ∷ words) = first_given (value_if key (pair_of word)) (value_of key words)

-- a pair of a key that the line knows and a value for it, and none of the words after it has the key
abbrev pub is_new_pair : Keys → Option (List ℕ × List ℕ) → List (List ℕ) → Bool
is_new_pair keys None behind = false
is_new_pair keys (Some pair) behind = is_good_value (value_kind keys pair.0) pair.1 && not (is_some (value_of pair.0 behind))

abbrev pub is_first_pair : Keys → List ℕ → List (List ℕ) → Bool
is_first_pair keys word behind = is_new_pair keys (pair_of word) behind

-- each word is such a pair: so no key is there twice
abbrev pub are_pairs : Keys → List (List ℕ) → Bool
are_pairs keys [] = true
are_pairs keys (word ∷ words) = is_first_pair keys word words && are_pairs keys words

-- the text of a value
abbrev pub text_or_empty : Option (List ℕ) → List ℕ
text_or_empty None = []
text_or_empty (Some text) = text

abbrev pub text_in : Option (List ℕ) → List ℕ
text_in None = []
text_in (Some value) = text_or_empty (text_of value)

-- the text that a key is given, or the empty text
abbrev pub text_at : List ℕ → List (List ℕ) → List ℕ
text_at key words = text_in (value_of key words)

abbrev pub number_or_zero : Option ℕ → ℕ
number_or_zero None = 0
number_or_zero (Some n) = n

abbrev pub small_in : Option (List ℕ) → ℕ
small_in None = 0
small_in (Some value) = number_or_zero (number_within 0 (2 ^ 32 - 1) value)

-- the number of 32 bits that a key is given, or 0
abbrev pub small_at : List ℕ → List (List ℕ) → ℕ
small_at key words = small_in (value_of key words)

abbrev pub large_in : Option (List ℕ) → Option ℕ
large_in None = None
large_in (Some value) = number_of value

-- the number of 64 bits that a key is given, if it is given one
abbrev pub large_at : List ℕ → List (List ℕ) → Option ℕ
large_at key words = large_in (value_of key words)

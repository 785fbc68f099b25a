-- The bytes that a word of the command line has.
use Rattle.std.specs.Prelude.{ℕ, ◌-◌, Bool, nat_lt, List, [], ◌∷◌, encode_utf8, if◌then◌else◌}
use Rattle.std.specs.List.{flat_map, list_all}
use Rattle.std.specs.Str.{chars}

-- a character of a word's own: one below U+10FF80, and none of those that stand for bytes
abbrev pub is_own : ℕ → Bool
is_own c = nat_lt c 1113984

-- the bytes of a character, or the byte in whose place it is: 0x80 for U+10FF80, and so on
abbrev pub bytes_kept : ℕ → List ℕ
bytes_kept c = if is_own c then encode_utf8 c else (c - 1113856) ∷ []

-- the bytes of a word
abbrev pub bytes_meant : List ℕ → List ℕ
bytes_meant word = flat_map bytes_kept (chars word)

-- the word was UTF-8
abbrev pub is_text : List ℕ → Bool
is_text word = list_all is_own (chars word)

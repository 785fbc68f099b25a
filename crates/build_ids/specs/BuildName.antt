-- The names of files by their build ID (GDB, "Debugging Information in Separate Files"): a directory for the first byte of the ID, and in
-- it a file for the others, each byte as two hexadecimal digits in lower case.
use Rattle.std.specs.Prelude.{◌≡◌, ◌⊎◌, ℕ, ◌&&◌, nat_le, Bool, true, List, ◌++◌, length, take, drop, codes}
use Rattle.script_words.specs.Hex.{hex_of}

-- An ID by which a file has a name: one byte for the directory, and as many others as let the name of a debug file have at most 127 bytes.
abbrev pub has_name : List ℕ → Bool
has_name id = nat_le 2 (length id) && nat_le (length id) 55

-- of the executable or the library that has the build ID
unfoldable pub build_name : List ℕ → List ℕ
build_name id = codes ".build-id/" ++ (hex_of (take 1 id) ++ (codes "/" ++ hex_of (drop 1 id)))

-- of its debug file
unfoldable pub debug_name : List ℕ → List ℕ
debug_name id = build_name id ++ codes ".debug"

-- It is one of the two names of that build.
abbrev pub IsNameOf : List ℕ → List ℕ → Type 0
IsNameOf id name = (has_name id ≡ true) × ((name ≡ build_name id) ⊎ (name ≡ debug_name id))

-- The words of a handler.
use Rattle.std.specs.Prelude.{Bool, false, List, [], ◌∷◌, String, codes, string_bytes}
use Rattle.std.specs.Str.{bytes_eq}

-- the words are those of `handle`
abbrev pub asks_to_handle : {Z : Type 0} → List (String Z) → Bool
asks_to_handle [] = false
asks_to_handle (word ∷ words) = bytes_eq (string_bytes word) (codes "handle")

-- The words that lines about memory have in common.
use Rattle.std.specs.Prelude.{ℕ, List, [], ◌∷◌, ◌++◌, Option, None, Some, codes}
use Rattle.script_words.specs.Printing.{shown, hexadecimal}
use Rattle.address_space.specs.Source.{SpotView}

-- a number in hexadecimal, and a space
unfoldable pub hex_word : ℕ → List ℕ
hex_word n = hexadecimal n ++ 32 ∷ []

-- `OFFSET NAME`: a place in a mapped file, or none
unfoldable pub spot_words : Option SpotView → List ℕ
spot_words None = codes "- -"
spot_words (Some spot) = hex_word spot.offset ++ shown spot.name

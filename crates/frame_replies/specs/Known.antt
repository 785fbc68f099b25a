-- Values that need not be known.
use Rattle.std.specs.Prelude.{ℕ, List, Option, None, Some, codes}
use Rattle.script_words.specs.Printing.{hexadecimal}

-- in hexadecimal, or `?` where it is not known
abbrev pub known_words : Option ℕ → List ℕ
known_words None = codes "?"
known_words (Some n) = hexadecimal n

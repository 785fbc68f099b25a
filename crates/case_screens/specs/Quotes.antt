-- The printed texts that a shell hands over as they are.
use Rattle.std.specs.Prelude.{ℕ, ◌==◌, List, [], ◌∷◌, ◌++◌, if◌then◌else◌}
use Rattle.std.specs.List.{flat_map}
use Rattle.script_words.specs.Printing.{escape, shown_byte}

-- how a byte of a printed text stands between single quotes: the quote itself as its escape
abbrev pub quoted_byte : ℕ → List ℕ
quoted_byte c = if c == 39 then escape c else c ∷ []

-- the text between the quotes: all that a shell hands over, since no quote is among it
abbrev pub between_quotes : List ℕ → List ℕ
between_quotes word = flat_map quoted_byte word

-- the text there of a byte of a name
abbrev pub quoted_shown : ℕ → List ℕ
quoted_shown c = between_quotes (shown_byte c)

-- a printed text in single quotes
abbrev pub quoted : List ℕ → List ℕ
quoted word = 39 ∷ (between_quotes word ++ 39 ∷ [])

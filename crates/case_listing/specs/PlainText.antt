-- A reply as people read it: a `\xHH` becomes the byte itself, if that is a space or prints.
use Rattle.std.specs.Prelude.{ℕ, zero, suc, ◌==◌, List, [], ◌∷◌, Option, None, Some, if◌then◌else◌}
use Rattle.script_words.specs.Text.{escape_of}
use Rattle.script_words.specs.Words.{is_plain_byte}

-- a byte that is a space or prints
abbrev pub if_plain : Option ℕ → Option ℕ
if_plain None = None
if_plain (Some c) = if is_plain_byte c then Some c else None

-- the byte of `xHH` after a backslash, if it is a space or prints
abbrev pub plain_escape : List ℕ → Option ℕ
plain_escape cs = if_plain (escape_of cs)

-- The text after a backslash: the byte instead of the escape and the text after the escape, or the backslash and the text after it.
abbrev pub after_backslash : Option ℕ → List ℕ → List ℕ → List ℕ
after_backslash None past next = 92 ∷ next
after_backslash (Some c) past next = c ∷ past

-- the reply, of whose escape n bytes more are left out
abbrev pub plain_past : ℕ → List ℕ → List ℕ
plain_past zero [] = []
plain_past (suc n) [] = []
plain_past zero (c ∷ cs) =
    if c == 92 then after_backslash (plain_escape cs) (plain_past 3 cs) (plain_past 0 cs) else c ∷ plain_past 0 cs
plain_past (suc n) (c ∷ cs) = plain_past n cs

-- a reply as people read it
abbrev pub plain_of : List ℕ → List ℕ
plain_of text = plain_past 0 text

-- the byte of the escape that a text begins with, if it is a space or prints
abbrev pub front_escape : List ℕ → Option ℕ
front_escape [] = None
front_escape (c ∷ cs) = if c == 92 then plain_escape cs else None

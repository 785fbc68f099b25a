-- How texts stand on a page.
use Rattle.std.specs.Prelude.{ℕ, Bool, not, ◌==◌, ◌&&◌, nat_le, List, [], ◌∷◌, codes, if◌then◌else◌}
use Rattle.std.specs.List.{flat_map}
use Rattle.script_words.specs.Printing.{shown_byte}

-- how a byte of a text is shown: one of 0x20 to 0x7e as itself, any other byte and a backslash as `\xHH`
abbrev pub plain_byte : ℕ → List ℕ
plain_byte c = if c == 32 then 32 ∷ [] else shown_byte c

-- how a text is shown
abbrev pub plain : List ℕ → List ℕ
plain text = flat_map plain_byte text

-- The byte that is shown, as it stands on a page: five bytes as references.
abbrev pub escape_byte : ℕ → List ℕ
escape_byte c =
    if c == 38 then codes "&amp;"
    else (if c == 60 then codes "&lt;"
    else (if c == 62 then codes "&gt;"
    else (if c == 34 then codes "&quot;"
    else (if c == 39 then codes "&#39;"
    else plain_byte c))))

-- how a text stands on a page
abbrev pub escape : List ℕ → List ℕ
escape text = flat_map escape_byte text

-- A byte that begins and ends no tag, no value of an attribute, and can't turn the direction of a line.
abbrev pub is_tame : ℕ → Bool
is_tame c = nat_le 32 c && nat_le c 126 && not (c == 60) && not (c == 62) && not (c == 34) && not (c == 39)

-- The words of a script line: the bytes between its spaces.
use Rattle.std.specs.Prelude.{ℕ, Bool, true, false, ◌==◌, ◌&&◌, nat_le, List, [], ◌∷◌, Option, None, Some, filter, if◌then◌else◌}
use Rattle.std.specs.List.{list_all}

-- the byte of a space
abbrev pub is_space : ℕ → Bool
is_space c = c == 32

-- the pieces, c before the first of them
abbrev pub with_first : ℕ → List (List ℕ) → List (List ℕ)
with_first c [] = (c ∷ []) ∷ []
with_first c (piece ∷ pieces) = (c ∷ piece) ∷ pieces

-- the pieces before, between and after the spaces of a line: one more than there are spaces
abbrev pub pieces_of : List ℕ → List (List ℕ)
pieces_of [] = [] ∷ []
pieces_of (c ∷ cs) = if is_space c then [] ∷ pieces_of cs else with_first c (pieces_of cs)

-- the piece has a byte
abbrev pub is_word : List ℕ → Bool
is_word [] = false
is_word (c ∷ cs) = true

-- the words of a line: its pieces that are not empty
abbrev pub words_of : List ℕ → List (List ℕ)
words_of line = filter is_word (pieces_of line)

-- a byte that a line outside comments may hold: a space, or one of 0x21 to 0x7e
abbrev pub is_plain_byte : ℕ → Bool
is_plain_byte c = nat_le 32 c && nat_le c 126

-- every byte of the line is such a byte
abbrev pub is_plain_line : List ℕ → Bool
is_plain_line line = list_all is_plain_byte line

-- the first byte that is no space
abbrev pub first_visible_of : List ℕ → Option ℕ
first_visible_of [] = None
first_visible_of (c ∷ cs) = if is_space c then first_visible_of cs else Some c

-- no byte but spaces, or a `#` first: a line that begins so has no reply
abbrev pub is_remark : Option ℕ → Bool
is_remark None = true
is_remark (Some c) = c == 35

-- the line is blank, or a comment
abbrev pub is_blank_or_comment_line : List ℕ → Bool
is_blank_or_comment_line line = is_remark (first_visible_of line)

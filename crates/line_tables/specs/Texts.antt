-- Texts and numbers of line tables. A text ends with a NUL (DWARF 5, 7.5.5, "string"). All numbers are little endian.
use Rattle.std.specs.Prelude.{ℕ, ◌+◌, nat_le, if◌then◌else◌, List, [], ◌∷◌, length, take, drop, Option, None, Some}
use Rattle.std.specs.Option.{option_map}
use Rattle.std.specs.List.{position}
use Rattle.memchr.specs.Find.{is_byte}
use Rattle.elf_view.specs.Field.{field}

-- the bytes before the first NUL, and those after it
unfoldable pub text : List ℕ → Option (List ℕ × List ℕ)
text bytes = option_map (λ i. (take i bytes, drop (i + 1) bytes)) (position (is_byte 0) bytes)

-- the text at place p of a section
unfoldable pub text_at : List ℕ → ℕ → Option (List ℕ)
text_at section p = option_map (λ (t : List ℕ × List ℕ). t.0) (text (drop p section))

-- the first byte, and those after it
abbrev pub first_byte : List ℕ → Option (ℕ × List ℕ)
first_byte [] = None
first_byte (x ∷ xs) = Some (x, xs)

-- the number in w bytes, and the bytes after it
unfoldable pub number : ℕ → List ℕ → Option (ℕ × List ℕ)
number w bytes = if nat_le w (length bytes) then Some (field bytes 0 w, drop w bytes) else None

-- n bytes, and those after them
unfoldable pub split : ℕ → List ℕ → Option (List ℕ × List ℕ)
split n bytes = if nat_le n (length bytes) then Some (take n bytes, drop n bytes) else None

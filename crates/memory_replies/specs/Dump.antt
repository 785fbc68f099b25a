-- The bytes of a range of addresses, piece by piece.
use Rattle.std.specs.Prelude.{ℕ, ◌+◌, ◌*◌, ◌/◌, ◌^◌, ◌||◌, nat_lt, if◌then◌else◌, Bool, List, [], ◌∷◌, ◌++◌, length, Result, Ok, Err, codes}
use Rattle.std.specs.List.{flat_map, range_with_len}
use Rattle.script_words.specs.Hex.{hex_of}
use Rattle.script_words.specs.Printing.{hexadecimal}
use Rattle.elf_view.specs.Field.{part}
use Rattle.address_space.specs.Source.{ExecutableView, Content, held, from_file, not_dumped, cut, unmapped}
use Rattle.address_space.specs.Pieces.{PieceView, pieces_of}
use Rattle.memory_replies.specs.Memory.{memory_of}
use Rattle.memory_replies.specs.Words.{hex_word, spot_words}

-- row i of bytes that begin at address a: its address, a word, and the 16 bytes from place 16 i on, or those that are left
abbrev pub row_line : List ℕ → ℕ → List ℕ → ℕ → List ℕ
row_line word a bytes i = hex_word (a + 16 * i) ++ (word ++ (hex_of (part bytes (16 * i) 16) ++ 10 ∷ []))

-- the rows of bytes that begin at address a
unfoldable pub row_lines : List ℕ → ℕ → List ℕ → List ℕ
row_lines word a bytes = flat_map (row_line word a bytes) (range_with_len 0 ((length bytes + 15) / 16))

-- `ADDR notdumped LEN OFFSET NAME`, `ADDR cut LEN` and `ADDR unmapped LEN`
abbrev pub content_lines : ℕ → ℕ → Content (List ℕ) → List ℕ
content_lines a n (held bytes) = row_lines [] a bytes
content_lines a n (from_file bytes) = row_lines (codes "file ") a bytes
content_lines a n (not_dumped spot) = hex_word a ++ (codes "notdumped " ++ (hex_word n ++ (spot_words spot ++ 10 ∷ [])))
content_lines a n cut = hex_word a ++ (codes "cut " ++ (hexadecimal n ++ 10 ∷ []))
content_lines a n unmapped = hex_word a ++ (codes "unmapped " ++ (hexadecimal n ++ 10 ∷ []))

unfoldable pub piece_lines : PieceView → List ℕ
piece_lines p = content_lines p.first p.length p.content

-- the range ends past the last address, or is longer than a reply shows
abbrev pub is_out_of_range : ℕ → ℕ → Bool
is_out_of_range first n = nat_lt 65536 n || nat_lt (2 ^ 64) (first + n)

-- `dump`: the lines of each piece of n addresses, in rising order
unfoldable pub dump_answer : List ℕ → List ExecutableView → ℕ → ℕ → Result (List ℕ) (List ℕ)
dump_answer b executables first n =
    if is_out_of_range first n then Err (codes "Range")
    else Ok (flat_map piece_lines (pieces_of (memory_of b executables) first n))

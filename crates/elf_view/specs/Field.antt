-- Numbers and ranges of bytes of an image. All numbers are little endian (System V gABI, "Data Encoding", ELFDATA2LSB).
use Rattle.std.specs.Prelude.{ℕ, zero, suc, ◌+◌, ◌*◌, List, take, drop, slice_index}
use Rattle.std.specs.List.{before_first}
use Rattle.memchr.specs.Find.{is_byte}

-- the number in w bytes from place p on, the least byte first
unfoldable pub field : List ℕ → ℕ → ℕ → ℕ
field b p zero = 0
field b p (suc w) = slice_index b p + 256 * field b (p + 1) w

-- those of the n bytes from place p on that the image has
abbrev pub part : List ℕ → ℕ → ℕ → List ℕ
part b p n = take n (drop p b)

-- the text in a field of bytes: those before the first NUL, or all of them if there is no NUL
abbrev pub text_before_nul : List ℕ → List ℕ
text_before_nul bytes = before_first (is_byte 0) bytes

-- Lines of /proc/locks (proc_locks(5)). The words of one are separated by one space or several:
--     2: FLOCK  ADVISORY  WRITE 1234 fe:00:5392057 0 EOF
-- its number, the lock's kind, whether the kernel enforces it, what it allows, the process that took it, the file, and the range of bytes.
-- A file is its device, as the major and the minor number in hexadecimal digits, and its inode. The line of a process that waits for a
-- lock has an arrow before the kind.
use Rattle.std.specs.Prelude.{ℕ, ◌-◌, ◌^◌, ◌&&◌, Bool, true, false, List, [], ◌∷◌, ◌++◌, codes, decimal, Option, None, Some, if◌then◌else◌}
use Rattle.std.specs.Fmt.{digits, format_spec, padded_integral}
use Rattle.std.specs.List.{filter}
use Rattle.std.specs.Str.{bytes_eq}
use Rattle.mount_table.specs.Devices.{major, minor}
use Rattle.mount_table.specs.Pieces.{pieces_of}
use Rattle.mount_table.specs.PiecesLeft.{pieces_left}
use Rattle.mount_table.specs.declared.pieces.Pieces.{Pieces}
use Rattle.script_words.specs.Number.{number_within}

-- a number in two hexadecimal digits or more, as `{:02x}` writes it
abbrev pub two_digits : ℕ → List ℕ
two_digits n = padded_integral (format_spec 32 0 4 2 (2 ^ 64 - 1)) false [] (digits 16 false n)

-- a file by its device and its inode
abbrev pub locked_file : ℕ → ℕ → List ℕ
locked_file device inode = two_digits (major device) ++ (codes ":" ++ (two_digits (minor device) ++ (codes ":" ++ decimal inode)))

-- a piece between two spaces is a word
abbrev pub is_word : List ℕ → Bool
is_word [] = false
is_word (c ∷ cs) = true

-- the words among the pieces of a line
abbrev pub words_among : List (List ℕ) → List (List ℕ)
words_among pieces = filter is_word pieces

-- the words that have not come yet
abbrev pub words_left : Pieces → List (List ℕ)
words_left pieces = words_among (pieces_left pieces)

-- the process of a line with these words, if it has a lock on the file by flock(2)
abbrev pub process_among : List ℕ → List (List ℕ) → Option (List ℕ)
process_among file [] = None
process_among file (number ∷ []) = None
process_among file (number ∷ kind ∷ []) = None
process_among file (number ∷ kind ∷ strength ∷ []) = None
process_among file (number ∷ kind ∷ strength ∷ mode ∷ []) = None
process_among file (number ∷ kind ∷ strength ∷ mode ∷ process ∷ []) = None
process_among file (number ∷ kind ∷ strength ∷ mode ∷ process ∷ place ∷ rest) =
    if bytes_eq kind (codes "FLOCK") && bytes_eq place file then Some process else None

-- the number of a process if a line had it, or else the other; a process of another PID namespace has 0 or -1
abbrev pub number_or : Option (List ℕ) → Option ℕ → Option ℕ
number_or None other = other
number_or (Some process) other = number_within 1 (2 ^ 31 - 1) process

-- the process of the first of these lines that has a lock on the file
abbrev pub holder_among : List ℕ → List (List ℕ) → Option ℕ
holder_among file [] = None
holder_among file (line ∷ lines) = number_or (process_among file (words_among (pieces_of 32 line))) (holder_among file lines)

-- the process that holds a lock on the file, by the table's text
abbrev pub holder_in : List ℕ → List ℕ → Option ℕ
holder_in text file = holder_among file (pieces_of 10 text)

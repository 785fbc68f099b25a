-- The texts in a process's memory.
use Rattle.std.specs.Prelude.{ℕ, List, [], ◌∷◌, ◌++◌, Option, None, Some, Result, Ok, decimal}
use Rattle.std.specs.List.{filter_map, flat_map, range_with_len}
use Rattle.script_words.specs.Printing.{shown}
use Rattle.address_space.specs.Source.{Space, ExecutableView, value_at, Content, held, from_file, not_dumped, cut, unmapped}
use Rattle.address_space.specs.Occurrence.{strings_of}
use Rattle.memory_replies.specs.Memory.{memory_of}
use Rattle.memory_replies.specs.Words.{hex_word}

-- the values of n addresses from a on, of those that have one
unfoldable pub values_between : Space → ℕ → ℕ → List ℕ
values_between space a n = filter_map (value_at space) (range_with_len a n)

-- the value of an address, if it has one
abbrev pub value_list : Option ℕ → List ℕ
value_list None = []
value_list (Some x) = x ∷ []

-- the bytes of addresses of one place, if they have any
abbrev pub content_bytes : Content (List ℕ) → List ℕ
content_bytes (held bytes) = bytes
content_bytes (from_file bytes) = bytes
content_bytes (not_dumped spot) = []
content_bytes cut = []
content_bytes unmapped = []

-- `ADDR LENGTH TEXT`
abbrev pub text_line : Space → ℕ × ℕ → List ℕ
text_line space x = hex_word x.0 ++ (decimal x.1 ++ (32 ∷ [] ++ (shown (values_between space x.0 x.1) ++ 10 ∷ [])))

-- `strings`: a line for each run of text of at least that length
unfoldable pub strings_answer : List ℕ → List ExecutableView → ℕ → Result (List ℕ) (List ℕ)
strings_answer b executables least =
    Ok (flat_map (text_line (memory_of b executables)) (strings_of (memory_of b executables) least))

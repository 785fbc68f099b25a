-- The places where bytes occur in a process's memory.
use Rattle.std.specs.Prelude.{ℕ, List, [], ◌∷◌, ◌++◌, Result, Ok}
use Rattle.std.specs.List.{flat_map}
use Rattle.script_words.specs.Printing.{hexadecimal}
use Rattle.address_space.specs.Source.{ExecutableView}
use Rattle.address_space.specs.Occurrence.{occurrences}
use Rattle.memory_replies.specs.Memory.{memory_of}

abbrev pub address_line : ℕ → List ℕ
address_line a = hexadecimal a ++ 10 ∷ []

-- `find`: every address at which the bytes occur
unfoldable pub find_answer : List ℕ → List ExecutableView → List ℕ → Result (List ℕ) (List ℕ)
find_answer b executables needle = Ok (flat_map address_line (occurrences (memory_of b executables) needle))

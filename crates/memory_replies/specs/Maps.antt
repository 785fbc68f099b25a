-- The lines of mappings: the fields of each PT_LOAD of a core (System V gABI, "Program Header").
use Rattle.std.specs.Prelude.{ℕ, ◌+◌, ◌/◌, ◌%◌, ◌==◌, if◌then◌else◌, List, [], ◌∷◌, ◌++◌, Result, Ok, codes}
use Rattle.std.specs.List.{flat_map}
use Rattle.address_space.specs.Source.{MappingView, mappings_of}
use Rattle.memory_replies.specs.Memory.{memory_of}
use Rattle.memory_replies.specs.Words.{hex_word, spot_words}

-- the letter of a flag, or `-` if it is not set
abbrev pub flag_letter : ℕ → ℕ → List ℕ → List ℕ
flag_letter flags flag letter = if (flags / flag) % 2 == 1 then letter else codes "-"

-- PF_R (4), PF_W (2) and PF_X (1)
unfoldable pub rights : ℕ → List ℕ
rights flags = flag_letter flags 4 (codes "r") ++ (flag_letter flags 2 (codes "w") ++ flag_letter flags 1 (codes "x"))

-- `START PAST RWX FILESZ OFFSET NAME`
abbrev pub mapping_line : MappingView → List ℕ
mapping_line m =
    hex_word m.start ++ (hex_word (m.start + m.memsz) ++ (rights m.flags ++ (32 ∷ [] ++ (hex_word m.filesz
    ++ (spot_words m.spot ++ 10 ∷ [])))))

-- `maps`: a line for each PT_LOAD, in table order
unfoldable pub maps_answer : List ℕ → Result (List ℕ) (List ℕ)
maps_answer b = Ok (flat_map mapping_line (mappings_of (memory_of b [])))

-- The content of an address of a core: the mapping that has it, the place in the file that was mapped there, the function, and the threads
-- whose stacks the mapping has.
use Rattle.std.specs.Prelude.{ℕ, ◌+◌, ◌&&◌, nat_lt, nat_le, if◌then◌else◌, Bool, List, [], ◌∷◌, ◌++◌, find, Option, None, Some, Result, Ok, Err, codes, decimal}
use Rattle.elf_view.specs.ViewWords.{notes_of}
use Rattle.elf_view.specs.declared.faults.Want.TheVariants.{Core}
use Rattle.core_notes.specs.Typed.{all_descs}
use Rattle.thread_regs.specs.Register.{register_in}
use Rattle.address_space.specs.Source.{Content, held, from_file, not_dumped, cut, unmapped, ExecutableView, MappingView, Space, SpotView, entry_at, mappings_of, source_at, spot_of}
use Rattle.image_replies.specs.Header.{flag_letters}
use Rattle.image_replies.specs.Lines.{numbered_lines}
use Rattle.memory_replies.specs.Memory.{mapped_files, memory_of}
use Rattle.memory_replies.specs.Naming.{function_of, named_files}
use Rattle.memory_replies.specs.Places.{PlaceView, known_among, place_of, place_words}
use Rattle.memory_replies.specs.Words.{hex_word, spot_words}

-- an address is one of a mapping's
abbrev pub has_address : ℕ → MappingView → Bool
has_address a m = nat_le m.start a && nat_lt a (m.start + m.memsz)

-- the mapping of an address: the first that has it, in the order in which `maps` shows them
unfoldable pub mapping_at : List ℕ → ℕ → Option MappingView
mapping_at b a = find (has_address a) (mappings_of (memory_of b []))

-- the place of an address's byte, or why it has none
abbrev pub source_word : {A : Type 0} → Content A → List ℕ
source_word (held x) = codes "core"
source_word (from_file x) = codes "file"
source_word (not_dumped spot) = codes "notdumped"
source_word cut = codes "cut"
source_word unmapped = codes "unmapped"

-- `at ADDR START PAST RWX SOURCE`
unfoldable pub at_line : ℕ → MappingView → List ℕ → List ℕ
at_line a m source =
    codes "at " ++ (hex_word a ++ (hex_word m.start ++ (hex_word (m.start + m.memsz) ++ (flag_letters m.flags ++ (32 ∷ [] ++ (source ++ 10 ∷ []))))))

-- `file OFFSET NAME`
unfoldable pub file_line : Option SpotView → List ℕ
file_line spot = codes "file " ++ (spot_words spot ++ 10 ∷ [])

-- `function NAME+h`
unfoldable pub function_line : Option PlaceView → List ℕ
function_line place = codes "function " ++ (place_words place ++ 10 ∷ [])

-- `stack T`, if the stack pointer of thread i is in the mapping
unfoldable pub stack_line : MappingView → ℕ → List ℕ → List ℕ
stack_line m i desc = if has_address (register_in desc 2) m then codes "stack " ++ (decimal i ++ 10 ∷ []) else []

abbrev pub stack_lines : MappingView → List (List ℕ) → List ℕ
stack_lines m descs = numbered_lines (stack_line m) 0 descs

-- an address of that mapping, with that function, in a memory with these threads
unfoldable pub at_lines : Space → Option PlaceView → List (List ℕ) → ℕ → MappingView → List ℕ
at_lines space place descs a m =
    at_line a m (source_word (source_at space a))
    ++ (file_line (spot_of a (entry_at space.files a)) ++ (function_line place ++ stack_lines m descs))

abbrev pub answer_at : Space → Option PlaceView → List (List ℕ) → ℕ → Option MappingView → Result (List ℕ) (List ℕ)
answer_at space place descs a None = Err (codes "Unmapped")
answer_at space place descs a (Some m) = Ok (at_lines space place descs a m)

-- an address of a core, with that function
unfoldable pub located_answer : List ℕ → List ExecutableView → Option PlaceView → ℕ → Result (List ℕ) (List ℕ)
located_answer b executables place a = answer_at (memory_of b executables) place (all_descs 1 (notes_of Core b)) a (mapping_at b a)

-- `at`: with the function that the executables' symbols name at the address itself
abbrev pub at_answer : List ℕ → List ExecutableView → ℕ → Result (List ℕ) (List ℕ)
at_answer b executables a = located_answer b executables (place_of (mapped_files b) (known_among executables) a (Some a)) a

-- the same, with that which the executables or else their debug files name
abbrev pub at_with_debugs : List ℕ → List ExecutableView → List ExecutableView → ℕ → Result (List ℕ) (List ℕ)
at_with_debugs b executables debugs a = located_answer b executables (function_of (mapped_files b) (named_files executables debugs) a (Some a)) a

-- Rows of words, each with the target that it points to.
use Rattle.std.specs.Prelude.{ℕ, ◌+◌, if◌then◌else◌, List, [], ◌∷◌, ◌++◌, find, Option, None, Some, codes, decimal}
use Rattle.std.specs.Int.{to_be_bytes, w64}
use Rattle.memory_replies.specs.At.{has_address}
use Rattle.address_space.specs.Source.{MappingView, Space, mappings_of}
use Rattle.case_screens.specs.Frames.{file_place}
use Rattle.core_notes.specs.FileList.{FileView, is_mapping}
use Rattle.core_notes.specs.Typed.{all_descs}
use Rattle.elf_view.specs.ViewWords.{notes_of}
use Rattle.elf_view.specs.declared.faults.Want.TheVariants.{Core}
use Rattle.memory_replies.specs.Memory.{mapped_files}
use Rattle.memory_replies.specs.Naming.{NamedFile, function_of}
use Rattle.memory_replies.specs.Places.{PlaceView, place_words}
use Rattle.memory_replies.specs.Words.{hex_word}
use Rattle.script_words.specs.Printing.{hexadecimal, shown}
use Rattle.script_words.specs.Hex.{hex_of}
use Rattle.thread_regs.specs.Register.{register_in}

-- the file that is mapped at an address, by NT_FILE
abbrev pub file_at : List ℕ → ℕ → Option FileView
file_at core a = find (is_mapping a) (mapped_files core)

-- the number of the first thread whose stack pointer is in a mapping, from a number on
abbrev pub stack_in : MappingView → ℕ → List (List ℕ) → Option ℕ
stack_in m i [] = None
stack_in m i (desc ∷ descs) = if has_address (register_in desc 2) m then Some i else stack_in m (i + 1) descs

abbrev pub stack_text : Option ℕ → List ℕ
stack_text None = codes "  mapped"
stack_text (Some thread) = codes "  stack of thread " ++ decimal thread

-- an address of a mapping
abbrev pub mapping_text : List ℕ → MappingView → List ℕ
mapping_text core m = stack_text (stack_in m 0 (all_descs 1 (notes_of Core core)))

abbrev pub unnamed_by : List ℕ → Option FileView → Option MappingView → ℕ → List ℕ
unnamed_by core (Some file) mapping a = codes "  " ++ shown (file_place file a)
unnamed_by core None (Some m) a = mapping_text core m
unnamed_by core None None a = []

-- an address without a function: the place in its file; or of which thread's stack it is, or that it is mapped; nothing, if no mapping has it
abbrev pub unnamed_text : List ℕ → Space → ℕ → List ℕ
unnamed_text core space a = unnamed_by core (file_at core a) (find (has_address a) (mappings_of space)) a

-- the same with that function, if there is one
abbrev pub pointer_text : List ℕ → Space → Option PlaceView → ℕ → List ℕ
pointer_text core space (Some place) a = codes "  " ++ place_words (Some place)
pointer_text core space None a = unnamed_text core space a

-- the target at an address, by the functions of these files
abbrev pub target_text : List ℕ → Space → List NamedFile → ℕ → List ℕ
target_text core space files a = pointer_text core space (function_of space.files files a (Some a)) a

-- a number of 64 bits by its sixteen digits, the most significant first
abbrev pub digits_text : ℕ → List ℕ
digits_text word = hex_of (to_be_bytes w64 word)

abbrev pub known_text : List ℕ → Space → List NamedFile → Option ℕ → List ℕ
known_text core space files None = codes "-"
known_text core space files (Some word) = digits_text word ++ target_text core space files word

-- the row of the word at an address
abbrev pub word_row : List ℕ → Space → List NamedFile → ℕ → Option ℕ → List ℕ
word_row core space files address word = hex_word address ++ (codes " " ++ (known_text core space files word ++ 10 ∷ []))

-- the row of a register
abbrev pub register_row : List ℕ → Space → List NamedFile → List ℕ → ℕ → List ℕ
register_row core space files name value = name ++ (codes " " ++ (hexadecimal value ++ (target_text core space files value ++ 10 ∷ [])))

-- The parts of replies that read one image.
use Rattle.std.specs.Prelude.{ℕ, ◌+◌, List, [], ◌∷◌, ◌++◌, Option, None, Some, Result, Ok, Err, codes, decimal}
use Rattle.std.specs.Option.{option_map}
use Rattle.elf_view.specs.NoteList.{NoteView}
use Rattle.elf_view.specs.Sound.{first_fault}
use Rattle.elf_view.specs.ViewWords.{notes_of}
use Rattle.elf_view.specs.declared.faults.Want.{Want}
use Rattle.elf_view.specs.declared.faults.Want.TheVariants.{Core}
use Rattle.script_words.specs.Printing.{hexadecimal}
use Rattle.image_replies.specs.Core.{core_fault_of}
use Rattle.image_replies.specs.Reasons.{elf_reason, core_reason}

-- a number, or an address, and after it a space
abbrev pub number_word : ℕ → List ℕ
number_word n = decimal n ++ 32 ∷ []

abbrev pub address_word : ℕ → List ℕ
address_word n = hexadecimal n ++ 32 ∷ []

-- a line for each item, made with its number, the first being number i
abbrev pub numbered_lines : {A : Type 0} → (ℕ → A → List ℕ) → ℕ → List A → List ℕ
numbered_lines line i [] = []
numbered_lines line i (x ∷ xs) = line i x ++ numbered_lines line (i + 1) xs

-- an answer, or the reason why there is no answer
abbrev pub unless : Option (List ℕ) → Result (List ℕ) (List ℕ) → Result (List ℕ) (List ℕ)
unless None answer = answer
unless (Some reason) answer = Err reason

-- the lines of an image that is sound, or the first of its checks that fails
abbrev pub if_sound : Want → List ℕ → List ℕ → Result (List ℕ) (List ℕ)
if_sound want b lines = unless (option_map elf_reason (first_fault want b)) (Ok lines)

-- the answer from the notes of a core, or the first fault of the core and its typed notes
abbrev pub in_core : List ℕ → (List NoteView → Result (List ℕ) (List ℕ)) → Result (List ℕ) (List ℕ)
in_core b answer = unless (option_map core_reason (core_fault_of b)) (answer (notes_of Core b))

-- the lines of a descriptor that a core need not have
abbrev pub if_there : Option (List ℕ) → (List ℕ → List ℕ) → Result (List ℕ) (List ℕ)
if_there None lines = Err (codes "Missing")
if_there (Some desc) lines = Ok (lines desc)

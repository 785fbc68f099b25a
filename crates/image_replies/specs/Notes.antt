-- The reply to `notes`: a line for each note of a core (System V gABI, "Note Section"), whatever its name and type.
use Rattle.std.specs.Prelude.{ℕ, List, [], ◌∷◌, ◌++◌, Result, length, decimal}
use Rattle.elf_view.specs.NoteList.{NoteView}
use Rattle.elf_view.specs.ViewWords.{notes_of}
use Rattle.elf_view.specs.declared.faults.Want.TheVariants.{Core}
use Rattle.script_words.specs.Printing.{shown}
use Rattle.image_replies.specs.Lines.{number_word, address_word, numbered_lines, if_sound}

-- `I NAME TYPE LENGTH`
abbrev pub note_line : ℕ → NoteView → List ℕ
note_line i n =
    number_word i ++ (shown n.name ++ (32 ∷ [] ++ (address_word n.kind ++ (decimal (length n.desc) ++ 10 ∷ []))))

abbrev pub note_lines : List NoteView → List ℕ
note_lines notes = numbered_lines note_line 0 notes

abbrev pub notes_answer : List ℕ → Result (List ℕ) (List ℕ)
notes_answer b = if_sound Core b (note_lines (notes_of Core b))

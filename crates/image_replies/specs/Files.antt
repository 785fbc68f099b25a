-- The reply to `files`: the mapped files of a process, from its first NT_FILE (core(5)), their places in bytes.
use Rattle.std.specs.Prelude.{ℕ, List, [], ◌∷◌, ◌++◌, Result}
use Rattle.std.specs.List.{flat_map}
use Rattle.core_notes.specs.FileList.{FileView, files_of}
use Rattle.core_notes.specs.Typed.{first_desc}
use Rattle.script_words.specs.Printing.{shown}
use Rattle.image_replies.specs.Lines.{address_word, in_core, if_there}

-- `START PAST OFFSET NAME`
abbrev pub file_line : FileView → List ℕ
file_line f = address_word f.start ++ (address_word f.past ++ (address_word f.offset ++ (shown f.name ++ 10 ∷ [])))

abbrev pub file_lines : List ℕ → List ℕ
file_lines d = flat_map file_line (files_of d)

abbrev pub files_answer : List ℕ → Result (List ℕ) (List ℕ)
files_answer b = in_core b (λ notes. if_there (first_desc 0x46494c45 notes) file_lines)

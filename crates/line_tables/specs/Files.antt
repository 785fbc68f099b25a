-- The path of a source file (DWARF 5, 6.2.4, 13 and 17, and 6.2.5.3, DW_LNE_define_file in DWARF 4).
use Rattle.std.specs.Prelude.{ℕ, ◌-◌, ◌==◌, ◌||◌, nat_lt, if◌then◌else◌, Bool, false, List, [], ◌∷◌, ◌++◌, length, slice_get, Option, None, Some, Result, Ok, Err}
use Rattle.std.specs.Option.{option_and_then, option_map}
use Rattle.line_tables.specs.Entries.{EntryView, ListView, nth, entry, no_strings, file_format}
use Rattle.line_tables.specs.Header.{HeaderView}
use Rattle.line_tables.specs.Instructions.{StepView, steps_in}
use Rattle.line_tables.specs.declared.faults.LineField.{LineField}
use Rattle.line_tables.specs.declared.instructions.Instruction.{Instruction}
use Rattle.line_tables.specs.declared.instructions.Instruction.TheVariants.{DefineFile}

-- the file name that a step adds
abbrev pub added : Instruction → List ℕ → Option EntryView
added DefineFile content = option_map (λ (e : EntryView × List ℕ). e.0) (entry no_strings file_format content)
added _ content = None

abbrev pub added_by : Result StepView LineField → Option EntryView
added_by (Ok s) = added s.instruction s.content
added_by (Err f) = None

abbrev pub with_entry : Option EntryView → List EntryView → List EntryView
with_entry None es = es
with_entry (Some e) es = e ∷ es

-- those that a program adds
unfoldable pub added_among : List (Result StepView LineField) → List EntryView
added_among [] = []
added_among (s ∷ ss) = with_entry (added_by s) (added_among ss)

abbrev pub added_files : HeaderView → List EntryView
added_files h = added_among (steps_in h.version h.machine h.program)

-- file number k from 0 on, of those in the header and those that the program adds
unfoldable pub listed_file : HeaderView → ℕ → Option EntryView
listed_file h k =
    if nat_lt k h.lists.files.count then nth h.lists.files k else slice_get (added_files h) (k - h.lists.files.count)

-- files have numbers from 0 on in version 5, and from 1 on before
unfoldable pub file_entry : HeaderView → ℕ → Option EntryView
file_entry h n =
    if h.version == 5 then nth h.lists.files n
    else (if n == 0 then None else listed_file h (n - 1))

-- A path: the name of a file, which is in the directory, if that is not empty; which is in the base, if that is not empty.
pub record PathView : Type 0 where
  pub base : List ℕ
  pub directory : List ℕ
  pub name : List ℕ

abbrev pub path : List ℕ → List ℕ → List ℕ → PathView
path base directory name = record { base = base; directory = directory; name = name }

-- it begins with `/`
abbrev pub is_absolute : List ℕ → Bool
is_absolute [] = false
is_absolute (x ∷ xs) = x == 47

-- Version 5: directory 0 is that of the compilation, and another is in it if it is not absolute.
abbrev pub base_of : ListView → ℕ → List ℕ → Option (List ℕ)
base_of l n directory =
    if n == 0 || is_absolute directory then Some []
    else option_map (λ (e : EntryView). e.text) (nth l 0)

unfoldable pub numbered_path : ListView → EntryView → Option PathView
numbered_path l e =
    option_and_then (λ (d : EntryView). option_map (λ base. path base d.text e.text) (base_of l e.folder d.text)) (nth l e.folder)

-- Versions 2 to 4: directories have numbers from 1 on; 0 is that of the compilation, which .debug_info has, and not the table.
unfoldable pub listed_path : ListView → EntryView → Option PathView
listed_path l e =
    if e.folder == 0 then Some (path [] [] e.text)
    else option_map (λ (d : EntryView). path [] d.text e.text) (nth l (e.folder - 1))

-- an entry without a text is no name
unfoldable pub path_of : HeaderView → EntryView → Option PathView
path_of h e =
    if length e.text == 0 then None
    else (if is_absolute e.text then Some (path [] [] e.text)
    else (if h.version == 5 then numbered_path h.lists.directories e
    else listed_path h.lists.directories e))

-- the path of file n
unfoldable pub file_path : HeaderView → ℕ → Option PathView
file_path h n = option_and_then (path_of h) (file_entry h n)

-- a path as a text
abbrev pub with_slash : List ℕ → List ℕ
with_slash [] = []
with_slash (x ∷ xs) = x ∷ xs ++ 47 ∷ []

abbrev pub text_of : PathView → List ℕ
text_of p = with_slash p.base ++ with_slash p.directory ++ p.name

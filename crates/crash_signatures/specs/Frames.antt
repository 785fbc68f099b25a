-- The word of a frame.
use Rattle.std.specs.Prelude.{ℕ, ◌+◌, ◌-◌, Bool, true, false, nat_lt, List, ◌++◌, take, Option, None, Some, codes, if◌then◌else◌}
use Rattle.script_words.specs.Printing.{hexadecimal}
use Rattle.crash_signatures.specs.Names.{base_name, plain_name}
use Rattle.crash_signatures.specs.Words.{WordSaid}

-- a range of memory into which a file is mapped: its start, and the place of the file that is there
pub record FileSaid : Type 0 where
  pub path : List ℕ
  pub start : ℕ
  pub offset : ℕ

-- the facts of a frame
pub record FrameSaid : Type 0 where
  pub pc : ℕ
  pub is_signal : Bool
  pub function : Option (List ℕ)
  pub file : Option FileSaid
  pub is_vdso : Bool
  pub has_files : Bool

-- a word that says which kind of place a frame is at
abbrev pub mark : List ℕ → WordSaid
mark text = record { text = take 256 text; is_mark = true }

abbrev pub named : List ℕ → WordSaid
named text = record { text = text; is_mark = false }

-- how far into the file an address is
abbrev pub place_in : FileSaid → ℕ → ℕ
place_in file pc = (pc - file.start) + file.offset

-- the name of a mapped file, and the place of an address in it
abbrev pub place_text : FileSaid → ℕ → List ℕ
place_text file pc = base_name file.path ++ codes "+" ++ hexadecimal (place_in file pc)

-- the mark of a frame at which no file is mapped
abbrev pub place_mark : FrameSaid → List ℕ
place_mark f =
    if f.is_vdso then codes "<vdso>"
    else if nat_lt f.pc 4096 then codes "<null>"
    else if f.has_files then codes "<wild>"
    else codes "?"

abbrev pub place_word : FrameSaid → Option FileSaid → WordSaid
place_word f None = mark (place_mark f)
place_word f (Some file) = named (take 256 (place_text file f.pc))

abbrev pub function_word : FrameSaid → Option (List ℕ) → WordSaid
function_word f None = place_word f f.file
function_word f (Some name) = named (take 256 (plain_name name))

-- The word of a frame: that of a signal's frame, else the function's, else the place's.
abbrev pub word_of : FrameSaid → WordSaid
word_of f = if f.is_signal then mark (codes "<signal>") else function_word f f.function

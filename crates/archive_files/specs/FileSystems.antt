-- Notes on the file system that an archive lies on.
use Rattle.std.specs.Prelude.{ℕ, List, [], ◌++◌, codes, Option, None, Some}
use Rattle.script_words.specs.Printing.{shown}
use Rattle.mount_table.specs.Concerns.{concern_of, words_of}
use Rattle.mount_table.specs.declared.concerns.Concern.{Concern}

-- the kind as it prints, and the words about its limits
abbrev pub words_with : List ℕ → Option Concern → List ℕ
words_with kind None = []
words_with kind (Some concern) = (shown kind ++ codes ": ") ++ words_of concern

abbrev pub kind_words : List ℕ → List ℕ
kind_words kind = words_with kind (concern_of kind)

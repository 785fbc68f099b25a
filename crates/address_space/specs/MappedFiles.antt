-- The mapped files that a core may list.
use Rattle.std.specs.Prelude.{List, [], Option, None, Some}
use Rattle.core_notes.specs.FileList.{FileView, files_of}
use Rattle.core_notes.specs.FileWords.{files_bytes}
use Rattle.core_notes.specs.declared.file_list.Files.{Files}

-- no files, if the core has no list
abbrev pub files_in : Option Files → List FileView
files_in None = []
files_in (Some f) = files_of (files_bytes f)

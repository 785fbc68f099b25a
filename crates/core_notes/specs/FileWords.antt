-- The meaning of the code's lists of mapped files.
use Rattle.std.specs.Prelude.{ℕ, List}
use Rattle.core_notes.specs.FileList.{EntryView, FileView, files_from}
use Rattle.core_notes.specs.declared.file_list.FileEntry.{FileEntry}
use Rattle.core_notes.specs.declared.file_list.FileMap.{FileMap}
use Rattle.core_notes.specs.declared.file_list.FileMaps.{FileMaps}
use Rattle.core_notes.specs.declared.file_list.Files.{Files}

abbrev pub files_bytes : Files → List ℕ
files_bytes f = f.desc.now

abbrev pub file_view : FileMap → FileView
file_view m = record { start = m.start; past = m.past; offset = m.offset; name = m.name.now }

-- the files that are still to come
abbrev pub files_left : FileMaps → List FileView
files_left m = files_from m.desc.now m.index m.left m.names.now

abbrev pub entry_view : FileEntry → EntryView
entry_view e = record { number = e.number; start = e.start; past = e.past; offset = e.offset }

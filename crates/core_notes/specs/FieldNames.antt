-- The names of the faults of a descriptor.
use Rattle.std.specs.Prelude.{ℕ, List, codes}
use Rattle.core_notes.specs.declared.faults.NoteField.{NoteField}
use Rattle.core_notes.specs.declared.faults.NoteField.TheVariants.{DescSize, FileCount, FileOffset, FileNames}

abbrev pub note_field_name : NoteField → List ℕ
note_field_name DescSize = codes "DescSize"
note_field_name FileCount = codes "FileCount"
note_field_name FileOffset = codes "FileOffset"
note_field_name FileNames = codes "FileNames"

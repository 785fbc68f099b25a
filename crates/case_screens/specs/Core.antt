-- The notes of a core on its screen (core(5)), or the first fault of its headers, its notes and its typed notes.
use Rattle.std.specs.Prelude.{ℕ, List, [], Option, None, Some, Result, Ok, Err}
use Rattle.core_notes.specs.FileList.{FileView, files_of}
use Rattle.core_notes.specs.Typed.{first_desc}
use Rattle.elf_view.specs.NoteList.{NoteView}
use Rattle.elf_view.specs.Sound.{first_fault}
use Rattle.elf_view.specs.ViewWords.{header_of, notes_of}
use Rattle.elf_view.specs.declared.faults.ElfFault.{ElfFault}
use Rattle.elf_view.specs.declared.faults.Want.TheVariants.{Core, Exec}
use Rattle.elf_view.specs.declared.view.Header.{Header}
use Rattle.image_replies.specs.Core.{core_fault_of}
use Rattle.image_replies.specs.CoreWords.{core_bytes}
use Rattle.image_replies.specs.declared.core_image.CoreFault.{CoreFault}
use Rattle.image_replies.specs.declared.core_image.CoreImage.{CoreImage}
use Rattle.case_screens.specs.Reasons.{Reason, core_reason, missing}

-- a value, unless there is a fault
abbrev pub unless : {A E : Type 0} → Option E → A → Result A E
unless None value = Ok value
unless (Some fault) value = Err fault

-- the notes of a core, by its image
abbrev pub notes_in : List ℕ → Result (List NoteView) CoreFault
notes_in image = unless (core_fault_of image) (notes_of Core image)

-- the file header of an executable, by its image
abbrev pub header_in : List ℕ → Result Header ElfFault
header_in image = unless (first_fault Exec image) (header_of image)

-- the notes of a core that was read
abbrev pub notes_read : Result CoreImage CoreFault → Result (List NoteView) CoreFault
notes_read (Ok core) = Ok (notes_of Core (core_bytes core))
notes_read (Err fault) = Err fault

-- a descriptor that a core need not have
abbrev pub found : Option (List ℕ) → Result (List ℕ) Reason
found None = Err missing
found (Some desc) = Ok desc

-- the descriptor of the first typed note of a kind, or why there is no such descriptor
abbrev pub desc_in : ℕ → Result (List NoteView) CoreFault → Result (List ℕ) Reason
desc_in kind (Ok notes) = found (first_desc kind notes)
desc_in kind (Err fault) = Err (core_reason fault)

-- the files of an NT_FILE; an empty list, if there is no such note
abbrev pub files_in : Option (List ℕ) → List FileView
files_in None = []
files_in (Some desc) = files_of desc

-- The memory of a core's process, with the executables that are attached for its mapped files.
use Rattle.std.specs.Prelude.{ℕ, Bool, List, [], filter, Option, None, Some, is_none}
use Rattle.std.specs.List.{list_any}
use Rattle.std.specs.Str.{bytes_eq}
use Rattle.elf_view.specs.Header.{segments_of}
use Rattle.elf_view.specs.Sound.{first_fault}
use Rattle.elf_view.specs.ViewWords.{notes_of}
use Rattle.elf_view.specs.declared.faults.Want.TheVariants.{Core, Exec}
use Rattle.core_notes.specs.FileList.{FileView, files_of}
use Rattle.core_notes.specs.Typed.{first_desc}
use Rattle.address_space.specs.Source.{Space, ExecutableView}
pub use Rattle.address_space.specs.SpaceWords.{attached_view}

-- the mapped files that an NT_FILE names; without an NT_FILE, no files
abbrev pub files_by : Option (List ℕ) → List FileView
files_by None = []
files_by (Some desc) = files_of desc

-- the mapped files of a core (core(5), NT_FILE 0x46494c45)
abbrev pub mapped_files : List ℕ → List FileView
mapped_files b = files_by (first_desc 0x46494c45 (notes_of Core b))

abbrev pub has_name : List ℕ → FileView → Bool
has_name name f = bytes_eq f.name name

-- a mapped file of the core has that name
abbrev pub is_mapped : List ℕ → List ℕ → Bool
is_mapped b name = list_any (has_name name) (mapped_files b)

-- An executable is attached if it passes the checks of its headers; others are skipped.
abbrev pub is_attached : ExecutableView → Bool
is_attached x = is_none (first_fault Exec x.image)

-- the memory of a core's process: its segments, its mapped files, and the executables that are attached, in order
unfoldable pub memory_of : List ℕ → List ExecutableView → Space
memory_of b executables = record { segments = segments_of b; files = mapped_files b; executables = filter is_attached executables }

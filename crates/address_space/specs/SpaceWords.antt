-- The meaning of the code's address space.
use Rattle.std.specs.Prelude.{ℕ, List, map, Option}
use Rattle.elf_view.specs.Header.{segments_of}
use Rattle.elf_view.specs.ViewWords.{image_of}
use Rattle.elf_view.specs.declared.view.Elf.{Elf}
use Rattle.core_notes.specs.declared.file_list.Files.{Files}
use Rattle.address_space.specs.Source.{Space, ExecutableView}
pub use Rattle.address_space.specs.AttachedWords.{attached_view}
pub use Rattle.address_space.specs.MappedFiles.{files_in}
use Rattle.address_space.specs.declared.space.AddressSpace.{AddressSpace}

-- a core, its mapped files and the executables that are attached
abbrev pub space_view : Elf → Option Files → List ExecutableView → Space
space_view elf files executables = record { segments = segments_of (image_of elf); files = files_in files; executables = executables }

unfoldable pub space_of : AddressSpace → Space
space_of s = space_view s.elf s.files (map attached_view s.executables.list.items)

-- the bytes of the core
abbrev pub core_of : AddressSpace → List ℕ
core_of s = image_of s.elf

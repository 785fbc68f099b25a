-- The name of the build that a file is stored under, or why it is not (GDB, "Debugging Information in Separate Files").
use Rattle.std.specs.Prelude.{ℕ, ◌&&◌, ◌||◌, not, nat_lt, if◌then◌else◌, Bool, false, List, length, Option, None, Some, Result, Ok, Err}
use Rattle.std.specs.Str.{bytes_eq}
use Rattle.build_ids.specs.BuildName.{build_name, debug_name, has_name}
use Rattle.build_ids.specs.DebugFile.{told_name}
use Rattle.elf_view.specs.Sound.{first_fault}
use Rattle.elf_view.specs.declared.faults.ElfFault.{ElfFault}
use Rattle.elf_view.specs.declared.faults.Want.TheVariants.{Exec}
use Rattle.archive_files.specs.declared.build_store.BuildFault.{BuildFault}
use Rattle.archive_files.specs.declared.build_store.BuildFault.TheVariants.{Short, TooLong, Headers, NoBuildId, OtherBuild}

-- an ID is stated, and the name is neither that of its executable nor that of its debug file
abbrev pub is_other : Option (List ℕ) → List ℕ → Bool
is_other None name = false
is_other (Some id) name = not (has_name id && (bytes_eq name (build_name id) || bytes_eq name (debug_name id)))

-- a file with more bytes than an image may have, or with another length than is stated
abbrev pub length_fault : ℕ → Option ℕ → ℕ → Option BuildFault
length_fault limit None size = if nat_lt limit size then Some TooLong else None
length_fault limit (Some stated) size =
    if nat_lt limit size then Some TooLong
    else (if nat_lt size stated then Some Short else (if nat_lt stated size then Some TooLong else None))

-- the name that the file's ID gives, if it is the one that is wanted
abbrev pub name_wanted : Option (List ℕ) → Option (List ℕ) → Result (List ℕ) BuildFault
name_wanted id None = Err NoBuildId
name_wanted id (Some name) = if is_other id name then Err OtherBuild else Ok name

-- after the headers were checked
abbrev pub name_behind : Option ElfFault → Option (List ℕ) → Bool → List ℕ → Result (List ℕ) BuildFault
name_behind (Some fault) id debug b = Err (Headers fault)
name_behind None id debug b = name_wanted id (told_name debug b)

-- after the length was checked
abbrev pub name_within : Option BuildFault → Option (List ℕ) → Bool → List ℕ → Result (List ℕ) BuildFault
name_within (Some fault) id debug b = Err fault
name_within None id debug b = name_behind (first_fault Exec b) id debug b

-- The name for a file's bytes: of its debug file, if it is one or is to be one, else of its executable. Or the first reason why it has no name.
unfoldable pub name_by_build : ℕ → Option ℕ → Option (List ℕ) → Bool → List ℕ → Result (List ℕ) BuildFault
name_by_build limit stated id debug b = name_within (length_fault limit stated (length b)) id debug b

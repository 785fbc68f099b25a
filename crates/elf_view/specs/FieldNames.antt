-- The names of the fields in the System V gABI ("ELF Header", "Program Header", "Note Section").
use Rattle.std.specs.Prelude.{ℕ, Bool, true, false, List, codes}
use Rattle.elf_view.specs.declared.faults.ElfField.{ElfField}
use Rattle.elf_view.specs.declared.faults.ElfField.TheVariants.{Length, Magic, EiClass, EiData, EiVersion, EType, EMachine, EVersion, EPhentsize, EShoff, EPhoff, PFilesz, PMemsz, POffset, NNamesz, NDescsz}

abbrev pub elf_field_name : ElfField → List ℕ
elf_field_name Length = codes "Length"
elf_field_name Magic = codes "Magic"
elf_field_name EiClass = codes "EI_CLASS"
elf_field_name EiData = codes "EI_DATA"
elf_field_name EiVersion = codes "EI_VERSION"
elf_field_name EType = codes "e_type"
elf_field_name EMachine = codes "e_machine"
elf_field_name EVersion = codes "e_version"
elf_field_name EPhentsize = codes "e_phentsize"
elf_field_name EShoff = codes "e_shoff"
elf_field_name EPhoff = codes "e_phoff"
elf_field_name PFilesz = codes "p_filesz"
elf_field_name PMemsz = codes "p_memsz"
elf_field_name POffset = codes "p_offset"
elf_field_name NNamesz = codes "n_namesz"
elf_field_name NDescsz = codes "n_descsz"

-- the field is that of a program header or of a note, of which there may be many
abbrev pub has_index : ElfField → Bool
has_index PFilesz = true
has_index PMemsz = true
has_index POffset = true
has_index NNamesz = true
has_index NDescsz = true
has_index _ = false

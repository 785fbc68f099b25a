-- The reasons that replies give for an image that is refused: the bad field, by its name in the System V gABI ("ELF Header", "Program
-- Header", "Note Section"), and its number after it if it is a field of a program header or of a note, or a descriptor.
use Rattle.std.specs.Prelude.{ℕ, List, [], ◌∷◌, ◌++◌, decimal, if◌then◌else◌}
use Rattle.core_notes.specs.FieldNames.{note_field_name}
use Rattle.core_notes.specs.declared.faults.NoteFault.{NoteFault}
use Rattle.elf_view.specs.FieldNames.{elf_field_name, has_index}
use Rattle.elf_view.specs.declared.faults.ElfFault.{ElfFault}
use Rattle.image_replies.specs.declared.core_image.CoreFault.{CoreFault}
use Rattle.image_replies.specs.declared.core_image.CoreFault.TheVariants.{Elf, Note}

-- `FIELD INDEX`
abbrev pub indexed : List ℕ → ℕ → List ℕ
indexed name index = name ++ (32 ∷ [] ++ decimal index)

abbrev pub elf_reason : ElfFault → List ℕ
elf_reason fault =
    if has_index fault.«field» then indexed (elf_field_name fault.«field») fault.index else elf_field_name fault.«field»

abbrev pub note_reason : NoteFault → List ℕ
note_reason fault = indexed (note_field_name fault.«field») fault.index

abbrev pub core_reason : CoreFault → List ℕ
core_reason (Elf fault) = elf_reason fault
core_reason (Note fault) = note_reason fault

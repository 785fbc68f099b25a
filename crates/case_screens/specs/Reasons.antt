-- Why something is not shown.
use Rattle.std.specs.Prelude.{ℕ, List, if◌then◌else◌, Option, None, Some, codes}
use Rattle.core_notes.specs.FieldNames.{note_field_name}
use Rattle.core_notes.specs.declared.faults.NoteFault.{NoteFault}
use Rattle.elf_view.specs.FieldNames.{elf_field_name, has_index}
use Rattle.elf_view.specs.declared.faults.ElfFault.{ElfFault}
use Rattle.image_replies.specs.Reasons.{indexed}
use Rattle.image_replies.specs.declared.core_image.CoreFault.{CoreFault}
use Rattle.image_replies.specs.declared.core_image.CoreFault.TheVariants.{Elf, Note}

-- a reason: the name of the part with the fault, and its number, if there may be many
pub record Reason : Type 0 where
  pub name : List ℕ
  pub index : Option ℕ

-- the field of a header, of a program header or of a note
abbrev pub elf_reason : ElfFault → Reason
elf_reason fault = record { name = elf_field_name fault.«field»; index = if has_index fault.«field» then Some fault.index else None }

-- the descriptor of a typed note
abbrev pub note_reason : NoteFault → Reason
note_reason fault = record { name = note_field_name fault.«field»; index = Some fault.index }

abbrev pub core_reason : CoreFault → Reason
core_reason (Elf fault) = elf_reason fault
core_reason (Note fault) = note_reason fault

-- a note that a core need not have is not there
abbrev pub missing : Reason
missing = record { name = codes "Missing"; index = None }

-- it has no such thread
abbrev pub no_thread : Reason
no_thread = record { name = codes "NoThread"; index = None }

-- how a reason prints: `NAME`, or `NAME INDEX`
abbrev pub named : List ℕ → Option ℕ → List ℕ
named name None = name
named name (Some index) = indexed name index

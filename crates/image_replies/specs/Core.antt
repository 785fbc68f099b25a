-- Why a core is not shown: the first fault of its headers and notes, or else that of its typed notes.
use Rattle.std.specs.Prelude.{ℕ, List, Option}
use Rattle.std.specs.Option.{option_map, option_or}
use Rattle.core_notes.specs.Typed.{core_fault}
use Rattle.elf_view.specs.Sound.{first_fault}
use Rattle.elf_view.specs.ViewWords.{notes_of}
use Rattle.elf_view.specs.declared.faults.Want.TheVariants.{Core}
use Rattle.image_replies.specs.declared.core_image.CoreFault.{CoreFault}
use Rattle.image_replies.specs.declared.core_image.CoreFault.TheVariants.{Elf, Note}

abbrev pub core_fault_of : List ℕ → Option CoreFault
core_fault_of b = option_or (option_map Elf (first_fault Core b)) (option_map Note (core_fault (notes_of Core b)))

-- The stack of a core's thread, as far as a page shows it.
use Rattle.std.specs.Prelude.{◌≡◌, ◌⊎◌, ℕ, List, length, Ok}
use Rattle.address_space.specs.Whole.{AreHeldWithin}
use Rattle.disk_model.specs.declared.disk.Disk as disk
use Rattle.elf_view.specs.Header.{segments_of}
use Rattle.intake.specs.Part.{PartCall}
use Rattle.intake.specs.Parts.{Parts}
use Rattle.case_info.specs.declared.stack.StackPart.{StackPart}

-- These places have all bytes that an image of that size has for n addresses from `first` on; or the range is empty.
abbrev pub HasStack : List ℕ → ℕ → ℕ → ℕ → ℕ → ℕ → Type 0
HasStack front size first n start past = (start ≡ past) ⊎ AreHeldWithin size first n start past (segments_of front)

-- the part is read of the case's image
abbrev pub ReadsStack : {D : Type 0} → disk.Ghosts D → Parts D → ℕ → StackPart → Parts D → Type 0
ReadsStack g old seq p new = PartCall g old seq p.at (length p.bytes.items) (Ok tt) p.bytes.items new

-- The sections of an image.
use Rattle.std.proofs.Common.{◌≡◌, ◌+◌, ◌*◌, ◌||◌, not, ltb, eqb, ℕ, Bool, true, false, cond, List, length, Result, Ok, Err}
use Rattle.elf_view.specs.Header.{e_shoff, e_shentsize}
use Rattle.elf_view.specs.SectionTable.{section_count_of, told_sections}
use Rattle.elf_view.specs.declared.faults.SectionFault.{SectionFault}
use Rattle.elf_view.specs.declared.faults.SectionFault.TheVariants.{EShentsize, EShoff, NoSection}

counted_by : (t u w : Bool) (n : ℕ) → cond {A = Result ℕ SectionFault} t (Ok 0) (cond u (Err EShentsize) (cond w (Err EShoff) (Ok n))) ≡ Err NoSection → ⊥
counted_by true u w n h = cc
counted_by false true w n h = cc
counted_by false false true n h = cc
counted_by false false false n h = cc

-- counting the sections never misses one
pub counted : (b : List ℕ) → section_count_of b ≡ Err NoSection → ⊥
unfolding section_count_of
counted b h =
    counted_by (eqb (e_shoff b) 0) (not (eqb (e_shentsize b) 64)) (ltb (length b) (e_shoff b + 64) || ltb (length b) (e_shoff b + 64 * told_sections b)) (told_sections b) h

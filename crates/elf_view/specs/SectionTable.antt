-- Section headers (System V gABI, "Sections").
use Rattle.std.specs.Prelude.{ℕ, ◌+◌, ◌*◌, ◌==◌, ◌||◌, not, nat_lt, nat_le, if◌then◌else◌, List, length, Option, None, Some, Result, Ok, Err}
use Rattle.elf_view.specs.Field.{field, part}
use Rattle.elf_view.specs.Header.{e_shoff, e_shentsize, e_shnum}
use Rattle.elf_view.specs.declared.faults.SectionFault.{SectionFault}
use Rattle.elf_view.specs.declared.faults.SectionFault.TheVariants.{EShentsize, EShoff, NoSection}

-- a section header with its bytes, if they all lie in the image
pub record SectionView : Type 0 where
  pub name : ℕ
  pub kind : ℕ
  pub flags : ℕ
  pub addr : ℕ
  pub offset : ℕ
  pub size : ℕ
  pub link : ℕ
  pub info : ℕ
  pub addralign : ℕ
  pub entsize : ℕ
  pub bytes : Option (List ℕ)

-- the n bytes from place p on, if all of them lie in the image
abbrev pub whole_part : List ℕ → ℕ → ℕ → Option (List ℕ)
whole_part b p n = if nat_le (p + n) (length b) then Some (part b p n) else None

-- the section header from place p on
unfoldable pub section_from : List ℕ → ℕ → SectionView
section_from b p = record {
  name = field b p 4;
  kind = field b (p + 4) 4;
  flags = field b (p + 8) 8;
  addr = field b (p + 16) 8;
  offset = field b (p + 24) 8;
  size = field b (p + 32) 8;
  link = field b (p + 40) 4;
  info = field b (p + 44) 4;
  addralign = field b (p + 48) 8;
  entsize = field b (p + 56) 8;
  bytes = whole_part b (field b (p + 24) 8) (field b (p + 32) 8);
}

-- The number of sections by the headers: if it does not fit e_shnum, that is 0, and the number is in sh_size of section header 0.
unfoldable pub told_sections : List ℕ → ℕ
told_sections b = if e_shnum b == 0 then field b (e_shoff b + 32) 8 else e_shnum b

-- An image with e_shoff 0 has no sections. Else the headers have 64 bytes, and section header 0 and the table are in
-- the image.
unfoldable pub section_count_of : List ℕ → Result ℕ SectionFault
section_count_of b =
    if e_shoff b == 0 then Ok 0
    else (if not (e_shentsize b == 64) then Err EShentsize
    else (if nat_lt (length b) (e_shoff b + 64) || nat_lt (length b) (e_shoff b + 64 * told_sections b) then Err EShoff
    else Ok (told_sections b)))

-- section header i of the table, whose headers have 64 bytes each
abbrev pub section_below : List ℕ → ℕ → ℕ → Result SectionView SectionFault
section_below b i count = if nat_lt i count then Ok (section_from b (e_shoff b + 64 * i)) else Err NoSection

abbrev pub section_in : List ℕ → ℕ → Result ℕ SectionFault → Result SectionView SectionFault
section_in b i (Ok count) = section_below b i count
section_in b i (Err fault) = Err fault

abbrev pub section_of : List ℕ → ℕ → Result SectionView SectionFault
section_of b i = section_in b i (section_count_of b)

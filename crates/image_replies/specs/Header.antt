-- The reply to `header`: the file header, and a line for each program header (System V gABI, "ELF Header" and
-- "Program Header").
use Rattle.std.specs.Prelude.{ℕ, ◌==◌, List, [], ◌∷◌, ◌++◌, Result, codes, decimal, if◌then◌else◌}
use Rattle.std.specs.Int.{bit_at}
use Rattle.elf_view.specs.Header.{SegmentView, segments_of}
use Rattle.elf_view.specs.ViewWords.{header_of}
use Rattle.elf_view.specs.declared.faults.Want.{Want}
use Rattle.elf_view.specs.declared.view.Header.{Header}
use Rattle.script_words.specs.Printing.{hexadecimal}
use Rattle.image_replies.specs.Lines.{number_word, address_word, numbered_lines, if_sound}

-- `type T entry h flags h segments C`
abbrev pub header_line : Header → List ℕ
header_line h =
    codes "type " ++ (decimal h.kind ++ (codes " entry " ++ (hexadecimal h.entry ++ (codes " flags " ++ (hexadecimal h.flags
    ++ (codes " segments " ++ (decimal h.segments ++ 10 ∷ [])))))))

-- p_type: PT_LOAD is 1 and PT_NOTE 4
abbrev pub type_word : ℕ → List ℕ
type_word kind = if kind == 1 then codes "load" else (if kind == 4 then codes "note" else hexadecimal kind)

-- the letter of a flag that is set, else `-` (45)
abbrev pub flag_letter : ℕ → ℕ → ℕ → ℕ
flag_letter flags bit letter = if bit_at flags bit == 1 then letter else 45

-- p_flags as `rwx` (114, 119, 120): PF_R is bit 2, PF_W bit 1 and PF_X bit 0
abbrev pub flag_letters : ℕ → List ℕ
flag_letters flags = flag_letter flags 2 114 ∷ flag_letter flags 1 119 ∷ flag_letter flags 0 120 ∷ []

-- `I TYPE RWX OFFSET VADDR FILESZ MEMSZ`
abbrev pub segment_line : ℕ → SegmentView → List ℕ
segment_line i s =
    number_word i ++ (type_word s.kind ++ (32 ∷ [] ++ (flag_letters s.flags ++ (32 ∷ [] ++ (address_word s.offset
    ++ (address_word s.vaddr ++ (address_word s.filesz ++ (hexadecimal s.memsz ++ 10 ∷ []))))))))

-- a line for each program header
abbrev pub segment_lines : List SegmentView → List ℕ
segment_lines segments = numbered_lines segment_line 0 segments

abbrev pub header_answer : Want → List ℕ → Result (List ℕ) (List ℕ)
header_answer want b = if_sound want b (header_line (header_of b) ++ segment_lines (segments_of b))

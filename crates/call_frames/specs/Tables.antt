-- The places of an image's call frame information (LSB Core, "Exception Frames" and "The .eh_frame_hdr section").
use Rattle.std.specs.Prelude.{ℕ, ◌+◌, ◌-◌, ◌%◌, ◌^◌, ◌==◌, ◌&&◌, nat_eq, nat_lt, nat_le, if◌then◌else◌, Bool, List, [], ◌∷◌, drop, find, codes, Option, None, unwrap_or}
use Rattle.std.specs.Option.{option_map, option_and_then, option_or}
use Rattle.std.specs.List.{starts_with}
use Rattle.elf_view.specs.Header.{SegmentView, segments_of}
use Rattle.elf_view.specs.SectionNames.{named_section_of}
use Rattle.elf_view.specs.SectionTable.{SectionView}
use Rattle.inflate.specs.Sections.{DataView, section_data}
use Rattle.call_frames.specs.Entry.{TableView}
use Rattle.call_frames.specs.Pointers.{pointer}
use Rattle.call_frames.specs.declared.common.Format.{Format}
use Rattle.call_frames.specs.declared.common.Format.TheVariants.{EhFrame, DebugFrame}

-- the section .eh_frame of an image, which is loaded and so never compressed
abbrev pub eh_frame_table : SectionView → TableView
eh_frame_table s = record { format = EhFrame; address = s.addr; bytes = unwrap_or s.bytes [] }

abbrev pub eh_frame_in_image : List ℕ → Option TableView
eh_frame_in_image b = option_map eh_frame_table (named_section_of b (codes ".eh_frame"))

-- PT_GNU_EH_FRAME (0x6474e550): the segment of .eh_frame_hdr
abbrev pub is_header : SegmentView → Bool
is_header s = s.kind == 0x6474e550

-- Its version is 1; eh_frame_ptr_enc must be 0x1b, four signed bytes relative to
-- their place. They are those from place 4 on, and give the address of .eh_frame.
abbrev pub pointer_in : SegmentView → Option (ℕ × List ℕ)
pointer_in s = pointer 0x1b ((s.vaddr + 4) % 2 ^ 64) (drop 4 s.bytes)

unfoldable pub told_address : SegmentView → Option ℕ
told_address s = if starts_with nat_eq s.bytes (1 ∷ 0x1b ∷ []) then option_map (λ (p : ℕ × List ℕ). p.0) (pointer_in s) else None

-- a PT_LOAD (1) whose bytes in the file have the one of address a
abbrev pub has_address : ℕ → SegmentView → Bool
has_address a s = s.kind == 1 && nat_le s.vaddr a && nat_lt a (s.vaddr + s.filesz)

-- the bytes of the file that the first such segment has from that address on
abbrev pub bytes_from : ℕ → SegmentView → List ℕ
bytes_from a s = drop (a - s.vaddr) s.bytes

abbrev pub bytes_at : List ℕ → ℕ → Option (List ℕ)
bytes_at b a = option_map (bytes_from a) (find (has_address a) (segments_of b))

abbrev pub table_from : ℕ → List ℕ → TableView
table_from a bytes = record { format = EhFrame; address = a; bytes = bytes }

abbrev pub table_at : List ℕ → ℕ → Option TableView
table_at b a = option_map (table_from a) (bytes_at b a)

-- only the first PT_GNU_EH_FRAME is looked at
abbrev pub segment_table : List ℕ → Option TableView
segment_table b = option_and_then (table_at b) (option_and_then told_address (find is_header (segments_of b)))

-- a table without entries
abbrev pub no_table : Format → TableView
no_table format = record { format = format; address = 0; bytes = [] }

-- the section .eh_frame, else the bytes that PT_GNU_EH_FRAME leads to, else no table
unfoldable pub eh_frame_of : List ℕ → TableView
eh_frame_of b = unwrap_or (option_or (eh_frame_in_image b) (segment_table b)) (no_table EhFrame)

-- the section .debug_frame of an image, decompressed if it is compressed
abbrev pub debug_frame_table : DataView → TableView
debug_frame_table d = record { format = DebugFrame; address = d.addr; bytes = d.bytes }

abbrev pub debug_frame_in_image : List ℕ → Option TableView
debug_frame_in_image b = option_map debug_frame_table (section_data b (codes ".debug_frame"))

-- The section .debug_frame of an executable; if it has no readable one, that of its debug file, if there is one; else no table. The addresses in a
-- debug file are the executable's own (GDB, "Debugging Information in Separate Files").
unfoldable pub debug_frame_of : List ℕ → Option (List ℕ) → TableView
debug_frame_of b debug = unwrap_or (option_or (debug_frame_in_image b) (option_and_then debug_frame_in_image debug)) (no_table DebugFrame)

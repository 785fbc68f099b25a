-- The build ID of an executable: the descriptor of its note NT_GNU_BUILD_ID (System V gABI, "Note Section"; glibc's <elf.h>).
use Rattle.std.specs.Prelude.{ℕ, ◌+◌, ◌*◌, ◌==◌, ◌&&◌, nat_le, if◌then◌else◌, Bool, List, [], ◌∷◌, length, find, Option, None, is_none}
use Rattle.std.specs.List.{flat_map, range_with_len}
use Rattle.std.specs.Option.{option_map}
use Rattle.std.specs.Str.{bytes_eq}
use Rattle.elf_view.specs.Field.{field}
use Rattle.elf_view.specs.Header.{SegmentView, e_phoff, segment_at, segment_count}
use Rattle.elf_view.specs.Sound.{first_fault}
use Rattle.elf_view.specs.declared.faults.Want.TheVariants.{Exec}
use Rattle.build_ids.specs.Notes.{NoteView, notes_in, padding_by}
use Rattle.build_ids.specs.declared.padding.Padding.{Padding}

-- `GNU` and one NUL
abbrev pub gnu : List ℕ
gnu = 71 ∷ 78 ∷ 85 ∷ 0 ∷ []

-- an NT_GNU_BUILD_ID (3) of that name with 1 to 64 bytes
unfoldable pub is_build_id : NoteView → Bool
is_build_id n = bytes_eq n.name gnu && n.kind == 3 && nat_le 1 (length n.desc) && nat_le (length n.desc) 64

-- the descriptor of the first of the notes that is one
abbrev pub id_among : List NoteView → Option (List ℕ)
id_among notes = option_map (λ (n : NoteView). n.desc) (find is_build_id notes)

-- how the notes of program header i are padded: by its p_align
abbrev pub padding_of : List ℕ → ℕ → Padding
padding_of b i = padding_by (field b (e_phoff b + 56 * i + 48) 8)

-- the program header is a PT_NOTE (4), all of which lies in the bytes
abbrev pub has_notes : List ℕ → SegmentView → Bool
has_notes b s = s.kind == 4 && nat_le (s.offset + s.filesz) (length b)

-- the notes of program header i
unfoldable pub notes_at : List ℕ → ℕ → List NoteView
notes_at b i = if has_notes b (segment_at b i) then notes_in (padding_of b i) (segment_at b i).bytes else []

-- those of n program headers from number i on, in table order
abbrev pub notes_between : List ℕ → ℕ → ℕ → List NoteView
notes_between b i n = flat_map (notes_at b) (range_with_len i n)

-- all of an image
abbrev pub notes_of : List ℕ → List NoteView
notes_of b = notes_between b 0 (segment_count b)

-- The build ID of bytes. Those with a fault as an executable have none.
unfoldable pub build_id_of : List ℕ → Option (List ℕ)
build_id_of b = if is_none (first_fault Exec b) then id_among (notes_of b) else None

-- Notes, with names and descriptors padded to four bytes (System V gABI, "Note Section"; core(5)).
use Rattle.std.specs.Prelude.{ℕ, zero, suc, ◌+◌, ◌-◌, ◌*◌, ◌/◌, ◌==◌, if◌then◌else◌, List, [], ◌∷◌, ◌++◌, length, map, take, slice_index}
use Rattle.std.specs.List.{flat_map}
use Rattle.elf_view.specs.Field.{field, part}
use Rattle.elf_view.specs.Header.{SegmentView}

-- a note's name without its closing NUL, its type and its descriptor
pub record NoteView : Type 0 where
  pub name : List ℕ
  pub kind : ℕ
  pub desc : List ℕ

-- the bytes that n bytes take with their padding to a multiple of four
abbrev pub padded : ℕ → ℕ
padded n = (n + 3) / 4 * 4

-- a name without one closing NUL
unfoldable pub without_closing_nul : List ℕ → List ℕ
without_closing_nul name = if slice_index name (length name - 1) == 0 then take (length name - 1) name else name

-- n_namesz, n_descsz and n_type of the note at the front of the bytes
abbrev pub n_namesz : List ℕ → ℕ
n_namesz bytes = field bytes 0 4

abbrev pub n_descsz : List ℕ → ℕ
n_descsz bytes = field bytes 4 4

abbrev pub n_type : List ℕ → ℕ
n_type bytes = field bytes 8 4

-- where its descriptor begins, and where the next note does
abbrev pub desc_at : List ℕ → ℕ
desc_at bytes = 12 + padded (n_namesz bytes)

unfoldable pub note_len : List ℕ → ℕ
note_len bytes = desc_at bytes + padded (n_descsz bytes)

-- the note at the front of the bytes
unfoldable pub note_at : List ℕ → NoteView
note_at bytes = record {
  name = without_closing_nul (part bytes 12 (n_namesz bytes));
  kind = n_type bytes;
  desc = part bytes (desc_at bytes) (n_descsz bytes);
}

-- The bytes that are left from each note on, if the first note starts k
-- places on. If a note's last padding is missing, nothing is left after it.
unfoldable pub rests_past : ℕ → List ℕ → List (List ℕ)
rests_past k [] = []
rests_past zero (x ∷ xs) = (x ∷ xs) ∷ rests_past (note_len (x ∷ xs) - 1) xs
rests_past (suc k) (x ∷ xs) = rests_past k xs

abbrev pub note_rests : List ℕ → List (List ℕ)
note_rests bytes = rests_past 0 bytes

-- the notes in a segment's bytes
abbrev pub notes_in : List ℕ → List NoteView
notes_in bytes = map note_at (note_rests bytes)

-- the same for a segment, which has notes if it is a PT_NOTE (4)
abbrev pub segment_rests : SegmentView → List (List ℕ)
segment_rests s = if s.kind == 4 then note_rests s.bytes else []

-- from each note of all PT_NOTE segments on, in table order
abbrev pub all_rests : List SegmentView → List (List ℕ)
all_rests segments = flat_map segment_rests segments

-- from each note on that is left: those in the rest of one segment, then those of other segments
abbrev pub rests_left : List ℕ → List SegmentView → List (List ℕ)
rests_left rest segments = note_rests rest ++ all_rests segments

-- The notes of an executable (System V gABI, "Note Section"): as many as are whole. Numbers are little endian.
use Rattle.std.specs.Prelude.{ℕ, zero, suc, ◌+◌, ◌-◌, ◌*◌, ◌/◌, ◌==◌, ◌&&◌, nat_le, if◌then◌else◌, Bool, List, [], ◌∷◌, length}
use Rattle.elf_view.specs.Field.{field, part}
use Rattle.build_ids.specs.declared.padding.Padding.{Padding}
use Rattle.build_ids.specs.declared.padding.Padding.TheVariants.{Four, Eight}

-- a note: its name with each NUL, its type and its descriptor
pub record NoteView : Type 0 where
  pub name : List ℕ
  pub kind : ℕ
  pub desc : List ℕ

-- notes are padded to eight bytes if p_align is 8, else to four
abbrev pub padding_by : ℕ → Padding
padding_by align = if align == 8 then Eight else Four

-- the first place that is not before n and a multiple of four, or of eight
abbrev pub padded : Padding → ℕ → ℕ
padded Four n = (n + 3) / 4 * 4
padded Eight n = (n + 7) / 8 * 8

-- n_namesz, n_descsz and n_type of the note at the front of the bytes
abbrev pub n_namesz : List ℕ → ℕ
n_namesz bytes = field bytes 0 4

abbrev pub n_descsz : List ℕ → ℕ
n_descsz bytes = field bytes 4 4

abbrev pub n_type : List ℕ → ℕ
n_type bytes = field bytes 8 4

-- where its descriptor begins and where that ends; and where the next note begins
abbrev pub desc_at : Padding → List ℕ → ℕ
desc_at p bytes = padded p (12 + n_namesz bytes)

abbrev pub desc_past : Padding → List ℕ → ℕ
desc_past p bytes = desc_at p bytes + n_descsz bytes

unfoldable pub note_len : Padding → List ℕ → ℕ
note_len p bytes = padded p (desc_past p bytes)

-- it is whole: its 12 bytes are there, and its descriptor is
unfoldable pub is_whole : Padding → List ℕ → Bool
is_whole p bytes = nat_le 12 (length bytes) && nat_le (desc_past p bytes) (length bytes)

unfoldable pub note_at : Padding → List ℕ → NoteView
note_at p bytes = record {
  name = part bytes 12 (n_namesz bytes);
  kind = n_type bytes;
  desc = part bytes (desc_at p bytes) (n_descsz bytes);
}

-- The notes of the bytes, if the first starts k places on. The first that is not whole ends them.
unfoldable pub notes_past : Padding → ℕ → List ℕ → List NoteView
notes_past p k [] = []
notes_past p zero (x ∷ xs) = if is_whole p (x ∷ xs) then note_at p (x ∷ xs) ∷ notes_past p (note_len p (x ∷ xs) - 1) xs else []
notes_past p (suc k) (x ∷ xs) = notes_past p k xs

-- those from the front of the bytes on
abbrev pub notes_in : Padding → List ℕ → List NoteView
notes_in p bytes = notes_past p 0 bytes

-- Note lists as a grammar over the bytes (System V gABI, "Note Section"), apart from how they are read.
use Rattle.std.specs.Prelude.{◌≡◌, ◌<◌, ◌⊎◌, ℕ, ◌+◌, ◌==◌, if◌then◌else◌, List, [], ◌∷◌, ◌++◌, length}
use Rattle.elf_view.specs.Field.{field}
use Rattle.elf_view.specs.Header.{SegmentView}
use Rattle.elf_view.specs.NoteList.{NoteView, padded, without_closing_nul, notes_in}

-- The text of a note up to the end of its descriptor: the 12 bytes of n_namesz, n_descsz and n_type, the name, its
-- padding, and the descriptor. The name is shown without one closing NUL.
pub record SpellsNote (text : List ℕ) (note : NoteView) : Type 0 where
  pub head : List ℕ
  pub name : List ℕ
  pub gap : List ℕ
  pub whole : text ≡ head ++ (name ++ (gap ++ note.desc))
  pub head_len : length head ≡ 12
  pub namesz : field head 0 4 ≡ length name
  pub descsz : field head 4 4 ≡ length note.desc
  pub kind : field head 8 4 ≡ note.kind
  pub gap_len : length name + length gap ≡ padded (length name)
  pub shown : without_closing_nul name ≡ note.name

-- Nothing; or a note with all its padding after the descriptor, and then a note list; or a last note with less.
abbrev pub IsNoteList : List ℕ → List NoteView → Type 0
IsNoteList bytes [] = bytes ≡ []
IsNoteList bytes (note ∷ notes) =
    (text : List ℕ) × (gap : List ℕ) × (rest : List ℕ) × SpellsNote text note × (bytes ≡ text ++ (gap ++ rest))
    × (((length note.desc + length gap ≡ padded (length note.desc)) × IsNoteList rest notes)
    ⊎ ((length note.desc + length gap < padded (length note.desc)) × (rest ≡ []) × (notes ≡ [])))

-- the notes of a segment, which has some if it is a PT_NOTE (4)
abbrev pub segment_notes : SegmentView → List NoteView
segment_notes s = if s.kind == 4 then notes_in s.bytes else []

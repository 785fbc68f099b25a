-- The notes of an executable as a grammar over the bytes (System V gABI, "Note Section"), apart from how they are read.
use Rattle.std.specs.Prelude.{◌≡◌, ℕ, ◌+◌, List, [], ◌∷◌, ◌++◌, length, drop}
use Rattle.elf_view.specs.Field.{field}
use Rattle.build_ids.specs.Notes.{NoteView, padded}
use Rattle.build_ids.specs.declared.padding.Padding.{Padding}

-- The text of a note up to the end of its descriptor: the 12 bytes of n_namesz, n_descsz and n_type, the name, as many bytes as
-- its padding has, and the descriptor.
pub record SpellsNote (p : Padding) (text : List ℕ) (note : NoteView) : Type 0 where
  pub head : List ℕ
  pub gap : List ℕ
  pub whole : text ≡ head ++ (note.name ++ (gap ++ note.desc))
  pub head_len : length head ≡ 12
  pub namesz : field head 0 4 ≡ length note.name
  pub descsz : field head 4 4 ≡ length note.desc
  pub kind : field head 8 4 ≡ note.kind
  pub gap_len : 12 + length note.name + length gap ≡ padded p (12 + length note.name)

-- A note, and then those from the first place on that its padding allows; no notes if the bytes do not start with a note's text.
abbrev pub IsNoteRun : Padding → List ℕ → List NoteView → Type 0
IsNoteRun p bytes [] = (text more : List ℕ) (note : NoteView) → bytes ≡ text ++ more → SpellsNote p text note → ⊥
IsNoteRun p bytes (note ∷ notes) =
    (text : List ℕ) × (more : List ℕ) × SpellsNote p text note × (bytes ≡ text ++ more) × IsNoteRun p (drop (padded p (length text)) bytes) notes

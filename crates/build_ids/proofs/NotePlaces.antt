-- The notes in bytes, one by one.
use Rattle.std.proofs.Common.{◌≡◌, ◌≤◌, ℕ, zero, suc, ◌-◌, List, [], ◌∷◌, length, drop, true, false, nat_le, Some, refl, ap, ◌∙◌, arith}
use Rattle.std.proofs.lemmas.Bool.{and_parts, leb-true}
use Rattle.build_ids.specs.BuildId.{id_among, is_build_id}
use Rattle.build_ids.specs.Notes.{NoteView, padded, note_at, note_len, is_whole, notes_past, notes_in}
use Rattle.build_ids.specs.declared.padding.Padding.{Padding}
use Rattle.build_ids.specs.declared.padding.Padding.TheVariants.{Four, Eight}

past_drop : (p : Padding) (k : ℕ) (bytes : List ℕ) → notes_past p k bytes ≡ notes_in p (drop k bytes)
unfolding notes_past
past_drop p zero [] = refl
past_drop p zero (x ∷ xs) = refl
past_drop p (suc k) [] = refl
past_drop p (suc k) (x ∷ xs) = past_drop p k xs

pub padded_above : (p : Padding) (n : ℕ) → n ≤ padded p n
padded_above Four n = omega arith
padded_above Eight n = omega arith

-- a note takes its 12 bytes at least
pub note_len_above : (p : Padding) (bytes : List ℕ) → 12 ≤ note_len p bytes
unfolding note_len
note_len_above Four bytes = omega arith
note_len_above Eight bytes = omega arith

pub whole_len : (p : Padding) (bytes : List ℕ) → is_whole p bytes ≡ true → 12 ≤ length bytes
unfolding is_whole
whole_len p bytes whole = leb-true 12 (length bytes) (and_parts (nat_le 12 (length bytes)) _ whole).0

-- after a whole note come the notes of the rest
pub notes_step : (p : Padding) (bytes : List ℕ) → is_whole p bytes ≡ true → notes_in p bytes ≡ note_at p bytes ∷ notes_in p (drop (note_len p bytes) bytes)
unfolding notes_past
notes_step p [] whole = absurd (omega (arith, whole_len p [] whole))
notes_step p (x ∷ xs) whole =
    let above = note_len_above p (x ∷ xs) in
    let count : suc (note_len p (x ∷ xs) - 1) ≡ note_len p (x ∷ xs) = omega arith in
    rw whole (ap (λ notes. note_at p (x ∷ xs) ∷ notes) (past_drop p (note_len p (x ∷ xs) - 1) xs ∙ ap (λ n. notes_in p (drop n (x ∷ xs))) count))

-- a note that is not whole ends them
pub notes_end : (p : Padding) (bytes : List ℕ) → is_whole p bytes ≡ false → notes_in p bytes ≡ []
unfolding notes_past
notes_end p [] part = refl
notes_end p (x ∷ xs) part = rw part refl

-- the build ID of notes that begin with another note is that of the others
pub id_on : (note : NoteView) (notes : List NoteView) → is_build_id note ≡ false → id_among (note ∷ notes) ≡ id_among notes
id_on note notes other = rw other refl

pub id_here : (note : NoteView) (notes : List NoteView) → is_build_id note ≡ true → id_among (note ∷ notes) ≡ Some note.desc
id_here note notes is = rw is refl

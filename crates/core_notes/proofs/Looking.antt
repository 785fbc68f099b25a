-- The first note of each type, and the first fault, as the notes go by.
use Rattle.std.proofs.Common.{◌≡◌, ℕ, Bool, true, false, cond, List, [], ◌∷◌, ◌++◌, Option, Some, None, find, length, eqb, refl, sym, ap, subst, ◌∙◌}
use Rattle.std.specs.Prelude.{is_none}
use Rattle.std.specs.Option.{option_or, option_map}
use Rattle.std.specs.List.{list_all}
use Rattle.std.proofs.lemmas.Bool.{false≢true, and_from, and_parts, eqb-true}
use Rattle.elf_view.specs.NoteList.{NoteView}
use Rattle.elf_view.specs.Sound.{next_index}
use Rattle.core_notes.specs.Descriptor.{status_fault}
use Rattle.core_notes.specs.Typed.{is_typed, first_desc, desc_if, FirstDescs, first_descs, next_descs, fault_if, fault_after, note_fault_at, first_note_fault, core_fault, is_status_whole, AreStatusesWhole}
use Rattle.core_notes.specs.declared.faults.NoteField.{NoteField}
use Rattle.core_notes.specs.declared.faults.NoteField.TheVariants.{DescSize}

first_or : (t : Bool) (n : NoteView) (rest : Option NoteView) (last : Option (List ℕ)) → cond t (Some n.desc) (option_or (option_map (λ (note : NoteView). note.desc) rest) last) ≡ option_or (option_map (λ (note : NoteView). note.desc) (cond t (Some n) rest)) last
first_or true n rest last = refl
first_or false n rest last = refl

through : (t : Bool) (n : NoteView) (rest : Option NoteView) → option_map (λ (note : NoteView). note.desc) (cond t (Some n) rest) ≡ cond t (Some n.desc) (option_map (λ (note : NoteView). note.desc) rest)
through true n rest = refl
through false n rest = refl

-- the first descriptor of a type, with one more note at the end
pub first_desc-push : (kind : ℕ) (before : List NoteView) (n : NoteView) → first_desc kind (before ++ n ∷ []) ≡ option_or (first_desc kind before) (desc_if kind n)
first_desc-push kind [] n = through (is_typed kind n) n None
first_desc-push kind (x ∷ xs) n =
    through (is_typed kind x) x (find (is_typed kind) (xs ++ n ∷ []))
    ∙ ap (λ rest. cond (is_typed kind x) (Some x.desc) rest) (first_desc-push kind xs n)
    ∙ first_or (is_typed kind x) x (find (is_typed kind) xs) (desc_if kind n)

same_descs : (a b : FirstDescs) → a.psinfo ≡ b.psinfo → a.auxv ≡ b.auxv → a.siginfo ≡ b.siginfo → a.files ≡ b.files → a ≡ b
same_descs a b p q r s =
    let by_psinfo : a ≡ record { psinfo = b.psinfo; auxv = a.auxv; siginfo = a.siginfo; files = a.files } = ap (λ x. record { psinfo = x; auxv = a.auxv; siginfo = a.siginfo; files = a.files }) p in
    let by_auxv : (let f : FirstDescs = record { psinfo = b.psinfo; auxv = a.auxv; siginfo = a.siginfo; files = a.files } in f) ≡ record { psinfo = b.psinfo; auxv = b.auxv; siginfo = a.siginfo; files = a.files } = ap (λ x. record { psinfo = b.psinfo; auxv = x; siginfo = a.siginfo; files = a.files }) q in
    let by_siginfo : (let f : FirstDescs = record { psinfo = b.psinfo; auxv = b.auxv; siginfo = a.siginfo; files = a.files } in f) ≡ record { psinfo = b.psinfo; auxv = b.auxv; siginfo = b.siginfo; files = a.files } = ap (λ x. record { psinfo = b.psinfo; auxv = b.auxv; siginfo = x; files = a.files }) r in
    let by_files : (let f : FirstDescs = record { psinfo = b.psinfo; auxv = b.auxv; siginfo = b.siginfo; files = a.files } in f) ≡ b = ap (λ x. record { psinfo = b.psinfo; auxv = b.auxv; siginfo = b.siginfo; files = x }) s in
    by_psinfo ∙ by_auxv ∙ by_siginfo ∙ by_files

-- the first descriptors, with one more note at the end
pub first_descs-push : (before : List NoteView) (n : NoteView) → first_descs (before ++ n ∷ []) ≡ next_descs (first_descs before) n
first_descs-push before n =
    same_descs (first_descs (before ++ n ∷ [])) (next_descs (first_descs before) n) (first_desc-push 3 before n) (first_desc-push 6 before n) (first_desc-push 0x53494749 before n) (first_desc-push 0x46494c45 before n)

-- a note that passes, and one that does not
pub note_passes : (before : List NoteView) (i : ℕ) (notes rest : List NoteView) (n : NoteView) → notes ≡ n ∷ rest → None ≡ fault_after (first_descs before) n → first_note_fault before i notes ≡ first_note_fault (before ++ n ∷ []) (next_index i) rest
unfolding first_note_fault
note_passes before i notes rest n is none =
    ap (first_note_fault before i) is ∙ ap (λ o. option_or (option_map (note_fault_at i) o) (first_note_fault (before ++ n ∷ []) (next_index i) rest)) (sym none)

pub note_fails : (before : List NoteView) (i : ℕ) (notes rest : List NoteView) (n : NoteView) (f : NoteField) → notes ≡ n ∷ rest → Some f ≡ fault_after (first_descs before) n → first_note_fault before i notes ≡ Some (note_fault_at i f)
unfolding first_note_fault
note_fails before i notes rest n f is fails =
    ap (first_note_fault before i) is ∙ ap (λ o. option_or (option_map (note_fault_at i) o) (first_note_fault (before ++ n ∷ []) (next_index i) rest)) (sym fails)

pub no_notes : (before : List NoteView) (i : ℕ) (notes : List NoteView) → notes ≡ [] → first_note_fault before i notes ≡ None
unfolding first_note_fault
no_notes before i notes none = ap (first_note_fault before i) none

none_of_either : {B : Type 0} → (o r : Option B) → is_none (option_or o r) ≡ true → (is_none o ≡ true) × (is_none r ≡ true)
none_of_either None r h = (refl, h)
none_of_either (Some x) r h = absurd (false≢true h)

none_of_both : {A B : Type 0} → (f : A → B) (o : Option A) (r : Option B) → is_none (option_or (option_map f o) r) ≡ true → (is_none o ≡ true) × (is_none r ≡ true)
none_of_both f None r h = (refl, h)
none_of_both f (Some x) r h = absurd (false≢true h)

-- where no note has a fault, each NT_PRSTATUS has its size
statuses_whole : (before : List NoteView) (i : ℕ) (notes : List NoteView) → is_none (first_note_fault before i notes) ≡ true → AreStatusesWhole notes
unfolding first_note_fault
statuses_whole before i [] h = refl
statuses_whole before i (n ∷ notes) h =
    let both = none_of_both (note_fault_at i) (fault_after (first_descs before) n) (first_note_fault (before ++ n ∷ []) (next_index i) notes) h in
    let status = none_of_either (fault_if (is_typed 1 n) (status_fault n.desc)) _ both.0 in
    and_from (is_status_whole n) (list_all is_status_whole notes) status.0 (statuses_whole (before ++ n ∷ []) (next_index i) notes both.1)

pub core_statuses_whole : (notes : List NoteView) → None ≡ core_fault notes → AreStatusesWhole notes
core_statuses_whole notes h = statuses_whole [] 0 notes (ap is_none (sym h))

-- of notes with whole states the first is whole where it is one, and the others are
pub behind_whole : (notes rest : List NoteView) (n : NoteView) → notes ≡ n ∷ rest → AreStatusesWhole notes → AreStatusesWhole rest
behind_whole notes rest n is whole =
    let all : AreStatusesWhole (n ∷ rest) = subst AreStatusesWhole is whole in (and_parts (is_status_whole n) (list_all is_status_whole rest) all).1

size_of : (t u : Bool) (f : NoteField) → t ≡ true → is_none (cond t (cond u None (Some f)) None) ≡ true → u ≡ true
size_of true true f p h = refl
size_of true false f p h = h
size_of false u f p h = absurd (false≢true p)

pub status_size : (notes rest : List NoteView) (n : NoteView) → notes ≡ n ∷ rest → AreStatusesWhole notes → is_typed 1 n ≡ true → length n.desc ≡ 376
status_size notes rest n is whole typed =
    let all : AreStatusesWhole (n ∷ rest) = subst AreStatusesWhole is whole in
    eqb-true (length n.desc) 376 (size_of (is_typed 1 n) (eqb (length n.desc) 376) DescSize typed (and_parts (is_status_whole n) (list_all is_status_whole rest) all).0)

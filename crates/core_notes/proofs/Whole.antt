-- The notes of a core have no fault where no note that is looked at has one, type by type.
use Rattle.std.proofs.Common.{◌≡◌, ◌↔◌, ◌&&◌, ◌||◌, ℕ, Bool, true, false, cond, List, [], ◌∷◌, ◌++◌, Option, Some, None, find, filter, map, refl, sym, ap, ◌∙◌}
use Rattle.std.specs.Prelude.{is_none, is_some}
use Rattle.std.specs.Option.{ForSome, option_or, option_map}
use Rattle.std.specs.List.{AllByRecursion, list_all}
use Rattle.std.proofs.lemmas.Bool.{false≢true, and_from, and_parts, or_right}
use Rattle.elf_view.specs.NoteList.{NoteView}
use Rattle.elf_view.specs.Sound.{next_index}
use Rattle.core_notes.specs.Descriptor.{status_fault, psinfo_fault, auxv_fault, siginfo_fault}
use Rattle.core_notes.specs.FileList.{files_fault}
use Rattle.core_notes.specs.Typed.{is_typed, first_desc, all_descs, first_descs, fault_if, fault_after, note_fault_at, first_note_fault, core_fault, is_status_whole, AreTypedWhole}
use Rattle.core_notes.specs.declared.faults.NoteField.{NoteField}
use Rattle.core_notes.proofs.Looking.{first_desc-push}

none_from : {A : Type 0} → (o : Option A) → is_none o ≡ true → o ≡ None
none_from None h = refl
none_from (Some x) h = absurd (false≢true h)

none_or : {A : Type 0} → (o r : Option A) → is_none (option_or o r) ≡ (is_none o && is_none r)
none_or None r = refl
none_or (Some x) r = refl

none_map : {A B : Type 0} → (f : A → B) (o : Option A) → is_none (option_map f o) ≡ is_none o
none_map f None = refl
none_map f (Some x) = refl

none_among : (a b c d e : Option NoteField) → is_none (option_or a (option_or b (option_or c (option_or d e)))) ≡ (is_none a && (is_none b && (is_none c && (is_none d && is_none e))))
none_among a b c d e =
    none_or a _ ∙ ap (λ x. is_none a && x) (none_or b _ ∙ ap (λ x. is_none b && x) (none_or c _ ∙ ap (λ x. is_none c && x) (none_or d e)))

and_swap : (a b c d : Bool) → ((a && b) && (c && d)) ≡ ((a && c) && (b && d))
and_swap true b true d = refl
and_swap true true false d = refl
and_swap true false false d = refl
and_swap false b c d = refl

and_same : {a b c d : Bool} → a ≡ b → c ≡ d → (a && c) ≡ (b && d)
and_same {a} {b} {c} {d} p q = ap (λ x. x && c) p ∙ ap (λ y. b && y) q

and_swaps : (a b c d e p q r s t : Bool) → ((a && (b && (c && (d && e)))) && (p && (q && (r && (s && t))))) ≡ ((a && p) && ((b && q) && ((c && r) && ((d && s) && (e && t)))))
and_swaps a b c d e p q r s t =
    and_swap a _ p _ ∙ ap (λ x. (a && p) && x) (and_swap b _ q _ ∙ ap (λ x. (b && q) && x) (and_swap c _ r _ ∙ ap (λ x. (c && r) && x) (and_swap d e s t)))

-- what is told of a descriptor, if there is one: no fault
abbrev is_fine : (List ℕ → Option NoteField) → Option (List ℕ) → Bool
is_fine fault None = true
is_fine fault (Some d) = is_none (fault d)

-- of notes that follow others, the first of a type has no fault, unless one of the others is of it
abbrev is_first_fine : (List ℕ → Option NoteField) → ℕ → List NoteView → List NoteView → Bool
is_first_fine fault kind before notes = is_some (first_desc kind before) || is_fine fault (first_desc kind notes)

and_true : (b : Bool) → b ≡ (b && true)
and_true true = refl
and_true false = refl

first_step : (fault : List ℕ → Option NoteField) (t : Bool) (n : NoteView) (o : Option (List ℕ)) (rest : Option NoteView) → (is_some o || is_fine fault (option_map (λ (note : NoteView). note.desc) (cond t (Some n) rest))) ≡ (is_none (fault_if (t && is_none o) (fault n.desc)) && (is_some (option_or o (cond t (Some n.desc) None)) || is_fine fault (option_map (λ (note : NoteView). note.desc) rest)))
first_step fault true n (Some x) rest = refl
first_step fault false n (Some x) rest = refl
first_step fault true n None rest = and_true (is_none (fault n.desc))
first_step fault false n None rest = refl

-- a note has no fault, unless it is of another type or one before it is of this one
abbrev is_fresh_fine : (List ℕ → Option NoteField) → ℕ → List NoteView → NoteView → Bool
is_fresh_fine fault kind before n = is_none (fault_if (is_typed kind n && is_none (first_desc kind before)) (fault n.desc))

first_grows : (fault : List ℕ → Option NoteField) (kind : ℕ) (before notes : List NoteView) (n : NoteView) → is_first_fine fault kind before (n ∷ notes) ≡ (is_fresh_fine fault kind before n && is_first_fine fault kind (before ++ n ∷ []) notes)
first_grows fault kind before notes n =
    first_step fault (is_typed kind n) n (first_desc kind before) (find (is_typed kind) notes)
    ∙ ap (λ o. is_fresh_fine fault kind before n && (is_some o || is_fine fault (first_desc kind notes))) (sym (first_desc-push kind before n))

-- no note that is looked at has a fault, of those that follow others
abbrev are_fine : List NoteView → List NoteView → Bool
are_fine before notes =
    list_all is_status_whole notes
    && (is_first_fine psinfo_fault 3 before notes
    && (is_first_fine auxv_fault 6 before notes
    && (is_first_fine siginfo_fault 0x53494749 before notes
    && is_first_fine files_fault 0x46494c45 before notes)))

none_fine : (fault : List ℕ → Option NoteField) (kind : ℕ) (before : List NoteView) → is_first_fine fault kind before [] ≡ true
none_fine fault kind before = or_right (is_some (first_desc kind before)) true refl

no_fault_fine : (before : List NoteView) (i : ℕ) (notes : List NoteView) → is_none (first_note_fault before i notes) ≡ are_fine before notes
unfolding first_note_fault
no_fault_fine before i [] =
    sym (and_same (none_fine psinfo_fault 3 before) (and_same (none_fine auxv_fault 6 before) (and_same (none_fine siginfo_fault 0x53494749 before) (none_fine files_fault 0x46494c45 before))))
no_fault_fine before i (n ∷ notes) =
    let next = before ++ n ∷ [] in
    none_or (option_map (note_fault_at i) (fault_after (first_descs before) n)) (first_note_fault next (next_index i) notes)
    ∙ and_same
    (none_map (note_fault_at i) (fault_after (first_descs before) n)
    ∙ none_among (fault_if (is_typed 1 n) (status_fault n.desc))
    (fault_if (is_typed 3 n && is_none (first_desc 3 before)) (psinfo_fault n.desc))
    (fault_if (is_typed 6 n && is_none (first_desc 6 before)) (auxv_fault n.desc))
    (fault_if (is_typed 0x53494749 n && is_none (first_desc 0x53494749 before)) (siginfo_fault n.desc))
    (fault_if (is_typed 0x46494c45 n && is_none (first_desc 0x46494c45 before)) (files_fault n.desc)))
    (no_fault_fine next (next_index i) notes)
    ∙ and_swaps (is_status_whole n) (is_fresh_fine psinfo_fault 3 before n) (is_fresh_fine auxv_fault 6 before n) (is_fresh_fine siginfo_fault 0x53494749 before n) (is_fresh_fine files_fault 0x46494c45 before n)
    (list_all is_status_whole notes) (is_first_fine psinfo_fault 3 next notes) (is_first_fine auxv_fault 6 next notes) (is_first_fine siginfo_fault 0x53494749 next notes) (is_first_fine files_fault 0x46494c45 next notes)
    ∙ ap (λ x. list_all is_status_whole (n ∷ notes) && x) (and_same (sym (first_grows psinfo_fault 3 before notes n)) (and_same (sym (first_grows auxv_fault 6 before notes n)) (and_same (sym (first_grows siginfo_fault 0x53494749 before notes n)) (sym (first_grows files_fault 0x46494c45 before notes n)))))

-- the states, as a test of notes and as what holds of descriptors
status_on : (t : Bool) (n : NoteView) (rest : List NoteView) → is_none (cond t (status_fault n.desc) None) ≡ true → AllByRecursion (λ d. status_fault d ≡ None) (map (λ (note : NoteView). note.desc) rest) → AllByRecursion (λ d. status_fault d ≡ None) (map (λ (note : NoteView). note.desc) (cond t (n ∷ rest) rest))
status_on true n rest whole others = (none_from (status_fault n.desc) whole, others)
status_on false n rest whole others = others

status_off : (t : Bool) (n : NoteView) (rest : List NoteView) → AllByRecursion (λ d. status_fault d ≡ None) (map (λ (note : NoteView). note.desc) (cond t (n ∷ rest) rest)) → (is_none (cond t (status_fault n.desc) None) ≡ true) × AllByRecursion (λ d. status_fault d ≡ None) (map (λ (note : NoteView). note.desc) rest)
status_off true n rest all = (ap is_none all.0, all.1)
status_off false n rest all = (refl, all)

statuses_on : (notes : List NoteView) → list_all is_status_whole notes ≡ true → AllByRecursion (λ d. status_fault d ≡ None) (all_descs 1 notes)
statuses_on [] h = tt
statuses_on (n ∷ notes) h =
    let both = and_parts (is_status_whole n) (list_all is_status_whole notes) h in
    status_on (is_typed 1 n) n (filter (is_typed 1) notes) both.0 (statuses_on notes both.1)

statuses_off : (notes : List NoteView) → AllByRecursion (λ d. status_fault d ≡ None) (all_descs 1 notes) → list_all is_status_whole notes ≡ true
statuses_off [] all = refl
statuses_off (n ∷ notes) all =
    let both = status_off (is_typed 1 n) n (filter (is_typed 1) notes) all in
    and_from (is_status_whole n) (list_all is_status_whole notes) both.0 (statuses_off notes both.1)

first_on : (fault : List ℕ → Option NoteField) (o : Option (List ℕ)) → is_fine fault o ≡ true → ForSome o (λ d. fault d ≡ None)
first_on fault o fine d is = none_from (fault d) (sym (ap (is_fine fault) is) ∙ fine)

first_off : (fault : List ℕ → Option NoteField) (o : Option (List ℕ)) → ForSome o (λ d. fault d ≡ None) → is_fine fault o ≡ true
first_off fault None all = refl
first_off fault (Some d) all = ap is_none (all d refl)

fine_whole : (notes : List NoteView) → are_fine [] notes ≡ true → AreTypedWhole notes
fine_whole notes h =
    let states = and_parts (list_all is_status_whole notes) _ h in
    let process = and_parts _ _ states.1 in
    let vector = and_parts _ _ process.1 in
    let signal = and_parts _ _ vector.1 in
    record {
      statuses = statuses_on notes states.0;
      psinfo = first_on psinfo_fault (first_desc 3 notes) process.0;
      auxv = first_on auxv_fault (first_desc 6 notes) vector.0;
      siginfo = first_on siginfo_fault (first_desc 0x53494749 notes) signal.0;
      files = first_on files_fault (first_desc 0x46494c45 notes) signal.1;
    }

whole_fine : (notes : List NoteView) → AreTypedWhole notes → are_fine [] notes ≡ true
whole_fine notes w =
    and_from _ _ (statuses_off notes w.statuses)
    (and_from _ _ (first_off psinfo_fault (first_desc 3 notes) w.psinfo)
    (and_from _ _ (first_off auxv_fault (first_desc 6 notes) w.auxv)
    (and_from _ _ (first_off siginfo_fault (first_desc 0x53494749 notes) w.siginfo)
    (first_off files_fault (first_desc 0x46494c45 notes) w.files))))

pub whole_is : (notes : List NoteView) → (core_fault notes ≡ None) ↔ AreTypedWhole notes
whole_is notes =
    (λ none. fine_whole notes (sym (no_fault_fine [] 0 notes) ∙ ap is_none none), λ w. none_from (core_fault notes) (no_fault_fine [] 0 notes ∙ whole_fine notes w))

-- The first check that fails, over joined lists and over items.
use Rattle.std.proofs.Common.{◌≡◌, ◌≤◌, ◌&&◌, not, ltb, ◌^◌, eqb, eq-eqb, length, ℕ, zero, suc, ◌+◌, List, [], ◌∷◌, ◌++◌, Bool, true, false, cond, Option, None, Some, refl, ap, subst, ◌∙◌, sym}
use Rattle.std.proofs.lemmas.Option.{none-some, same_Some}
use Rattle.std.specs.Option.{option_or, option_map}
use Rattle.std.specs.Prelude.{is_none, slice_get}
use Rattle.std.specs.List.{list_all, AllByRecursion}
use Rattle.std.proofs.lemmas.Bool.{false≢true, and_from, ltb-false, leb-true, not-false}
use Rattle.elf_view.specs.Header.{SegmentView, segments_of}
use Rattle.elf_view.specs.NoteList.{all_rests}
use Rattle.elf_view.specs.Sound.{Check, first_failing, first_fault_among, first_fault, header_fault, segment_fault, note_fault, fault_at, next_index, note_checks, segment_checks, is_core, is_within, is_note_whole, AreNotesWhole, IsLoadable, IsSound}
use Rattle.elf_view.proofs.Rows.{no_fault}
use Rattle.elf_view.specs.declared.faults.Want.{Want}
use Rattle.elf_view.specs.declared.faults.Want.TheVariants.{Core}
use Rattle.elf_view.specs.declared.faults.ElfField.{ElfField}
use Rattle.elf_view.specs.declared.faults.ElfField.TheVariants as fields

failing_cond : (t : Bool) (f : ElfField) (a b : Option ElfField) → cond t (Some f) (option_or a b) ≡ option_or (cond t (Some f) a) b
failing_cond true f a b = refl
failing_cond false f a b = refl

-- the checks of a joined list are those of the one and then those of the other
pub failing-append : (xs ys : List Check) → first_failing (xs ++ ys) ≡ option_or (first_failing xs) (first_failing ys)
failing-append [] ys = refl
failing-append (x ∷ xs) ys = ap (cond x.0 (Some x.1)) (failing-append xs ys) ∙ failing_cond x.0 x.1 (first_failing xs) (first_failing ys)

-- a fault of the second of three lists
pub second_fails : (xs ys zs : List Check) (f : ElfField) → None ≡ first_failing xs → Some f ≡ first_failing ys → first_failing (xs ++ ys ++ zs) ≡ Some f
second_fails xs ys zs f none fails =
    failing-append (xs ++ ys) zs ∙ ap (λ o. option_or o (first_failing zs)) (failing-append xs ys ∙ ap (λ o. option_or o (first_failing ys)) (sym none) ∙ sym fails)

-- an item that passes, and one that does not
pub item_passes : {A : Type 0} → (checks : A → List Check) (i : ℕ) (items others : List A) (x : A) → items ≡ x ∷ others → None ≡ first_failing (checks x) → first_fault_among checks i items ≡ first_fault_among checks (next_index i) others
unfolding first_fault_among
item_passes checks i items others x is none =
    ap (first_fault_among checks i) is ∙ ap (λ o. option_or (option_map (fault_at i) o) (first_fault_among checks (next_index i) others)) (sym none)

pub item_fails : {A : Type 0} → (checks : A → List Check) (i : ℕ) (items others : List A) (x : A) (f : ElfField) → items ≡ x ∷ others → Some f ≡ first_failing (checks x) → first_fault_among checks i items ≡ Some (fault_at i f)
unfolding first_fault_among
item_fails checks i items others x f is fails =
    ap (first_fault_among checks i) is ∙ ap (λ o. option_or (option_map (fault_at i) o) (first_fault_among checks (next_index i) others)) (sym fails)

-- no items have no fault
pub no_items : {A : Type 0} → (checks : A → List Check) (i : ℕ) (items : List A) → items ≡ [] → first_fault_among checks i items ≡ None
unfolding first_fault_among
no_items checks i items none = ap (first_fault_among checks i) none

none_of_both : {A B : Type 0} → (f : A → B) (o : Option A) (r : Option B) → is_none (option_or (option_map f o) r) ≡ true → (is_none o ≡ true) × (is_none r ≡ true)
none_of_both f None r h = (refl, h)
none_of_both f (Some x) r h = absurd (false≢true h)

none_of_either : {B : Type 0} → (o r : Option B) → is_none (option_or o r) ≡ true → (is_none o ≡ true) × (is_none r ≡ true)
none_of_either None r h = (refl, h)
none_of_either (Some x) r h = absurd (false≢true h)

-- notes without a fault pass their checks, each
notes_pass : (i : ℕ) (rests : List (List ℕ)) → is_none (first_fault_among note_checks i rests) ≡ true → AreNotesWhole rests
unfolding first_fault_among
notes_pass i [] h = refl
notes_pass i (x ∷ xs) h =
    let both = none_of_both (fault_at i) (first_failing (note_checks x)) (first_fault_among note_checks (next_index i) xs) h in
    and_from (is_note_whole x) (list_all is_note_whole xs) both.0 (notes_pass (next_index i) xs both.1)

-- in a core that is sound the notes pass
pub sound_notes : (b : List ℕ) → IsSound Core b → AreNotesWhole (all_rests (segments_of b))
unfolding first_fault
sound_notes b h =
    let behind_header = (none_of_either (header_fault Core b) (option_or (segment_fault Core b) (note_fault Core b)) (no_fault Core b h)).1 in
    notes_pass 0 (all_rests (segments_of b)) (none_of_either (segment_fault Core b) (note_fault Core b) behind_header).1

-- a check that is passed, and those after it
pub passed : (t : Bool) (f : ElfField) (others : Option ElfField) → is_none (cond t (Some f) others) ≡ true → (t ≡ false) × (is_none others ≡ true)
passed true f others h = absurd (false≢true h)
passed false f others h = (refl, h)

-- where the first part of a test holds and the test fails, the other part fails
other_fails : (a b : Bool) → a ≡ true → (a && b) ≡ false → b ≡ false
other_fails true b p h = h
other_fails false b p h = absurd (false≢true p)

-- items without a fault pass their checks, each
items_pass : {A : Type 0} → (checks : A → List Check) (P : A → Type 0) → ((x : A) → is_none (first_failing (checks x)) ≡ true → P x) → (i : ℕ) (items : List A) → is_none (first_fault_among checks i items) ≡ true → AllByRecursion P items
unfolding first_fault_among
items_pass checks P meaning i [] h = tt
items_pass checks P meaning i (x ∷ xs) h =
    let both = none_of_both (fault_at i) (first_failing (checks x)) (first_fault_among checks (next_index i) xs) h in
    (meaning x both.0, items_pass checks P meaning (next_index i) xs both.1)

pub sound_segments : (want : Want) (b : List ℕ) → IsSound want b → is_none (segment_fault want b) ≡ true
unfolding first_fault
sound_segments want b h =
    (none_of_either (segment_fault want b) (note_fault want b) (none_of_either (header_fault want b) (option_or (segment_fault want b) (note_fault want b)) (no_fault want b h)).1).0

loadable : (want : Want) (b : List ℕ) (s : SegmentView) → is_none (first_failing (segment_checks want b s)) ≡ true → s.kind ≡ 1 → IsLoadable s
loadable want b s h kind =
    let p = passed _ _ _ h in
    let q = passed _ _ _ p.1 in
    let is = eq-eqb s.kind 1 kind in
    record {
      filled = ltb-false _ _ (other_fails _ _ is p.0);
      ends = ltb-false _ _ (other_fails _ _ is q.0);
    }

pub each_loadable : (want : Want) (b : List ℕ) → IsSound want b → AllByRecursion (λ (s : SegmentView). s.kind ≡ 1 → IsLoadable s) (segments_of b)
each_loadable want b h = items_pass (segment_checks want b) (λ (s : SegmentView). s.kind ≡ 1 → IsLoadable s) (loadable want b) 0 (segments_of b) (sound_segments want b h)

three_pass : (a b c : Bool) (f g k : ElfField) → is_none (first_failing ((a, f) ∷ (b, g) ∷ (c, k) ∷ [])) ≡ true → (a ≡ false) × (b ≡ false) × (c ≡ false)
three_pass true b c f g k h = absurd (false≢true h)
three_pass false true c f g k h = absurd (false≢true h)
three_pass false false true f g k h = absurd (false≢true h)
three_pass false false false f g k h = (refl, refl, refl)

note_within : (want : Want) (b : List ℕ) (s : SegmentView) → is_core want ≡ true → is_none (first_failing (segment_checks want b s)) ≡ true → s.kind ≡ 4 → s.offset + s.filesz ≤ length b
note_within want b s core h kind =
    let all = three_pass (eqb s.kind 1 && ltb s.memsz s.filesz) (eqb s.kind 1 && ltb (2 ^ 64) (s.vaddr + s.memsz)) (is_core want && eqb s.kind 4 && not (is_within b s.offset s.filesz)) fields.PFilesz fields.PMemsz fields.POffset h in
    let is = and_from (is_core want) (eqb s.kind 4) core (eq-eqb s.kind 4 kind) in
    leb-true _ _ (not-false _ (other_fails _ _ is all.2))

pub each_note_within : (b : List ℕ) → IsSound Core b → AllByRecursion (λ (s : SegmentView). s.kind ≡ 4 → s.offset + s.filesz ≤ length b) (segments_of b)
each_note_within b h = items_pass (segment_checks Core b) (λ (s : SegmentView). s.kind ≡ 4 → s.offset + s.filesz ≤ length b) (λ s. note_within Core b s refl) 0 (segments_of b) (sound_segments Core b h)

at_place : {A : Type 0} → (P : A → Type 0) (xs : List A) (i : ℕ) (x : A) → AllByRecursion P xs → slice_get xs i ≡ Some x → P x
at_place P [] i x all is = absurd (none-some x is)
at_place P (y ∷ ys) zero x all is = subst P (same_Some y x is) all.0
at_place P (y ∷ ys) (suc i) x all is = at_place P ys i x all.1 is

pub loadable_at : (want : Want) (b : List ℕ) (i : ℕ) (s : SegmentView) → IsSound want b → slice_get (segments_of b) i ≡ Some s → s.kind ≡ 1 → IsLoadable s
loadable_at want b i s sound is = at_place (λ (s : SegmentView). s.kind ≡ 1 → IsLoadable s) (segments_of b) i s (each_loadable want b sound) is

pub note_within_at : (b : List ℕ) (i : ℕ) (s : SegmentView) → IsSound Core b → slice_get (segments_of b) i ≡ Some s → s.kind ≡ 4 → s.offset + s.filesz ≤ length b
note_within_at b i s sound is = at_place (λ (s : SegmentView). s.kind ≡ 4 → s.offset + s.filesz ≤ length b) (segments_of b) i s (each_note_within b sound) is

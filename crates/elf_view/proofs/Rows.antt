-- The first fault is that of the first row of the table that fails, and there is none where each passes.
use Rattle.std.proofs.Common.{◌≡◌, ◌<◌, ◌↔◌, ℕ, zero, suc, List, [], ◌∷◌, ◌++◌, map, Bool, true, false, cond, not, ◌&&◌, Option, None, Some, refl, ap, ◌∙◌, sym, arith}
use Rattle.std.specs.Option.{option_or, option_map}
use Rattle.std.specs.Prelude.{is_none, slice_get, IsTrue, IsOk, IsErr, Result, Ok, Err}
use Rattle.std.specs.List.{list_all, AllByRecursion}
use Rattle.std.specs.List.Sorted.{IsPermutation}
use Rattle.std.proofs.lemmas.Bool.{false≢true, and_from, and_parts}
use Rattle.std.proofs.lemmas.Option.{none-some, same_Some}
use Rattle.std.proofs.lemmas.List.Folds.{list_all-append, list_all-map}
use Rattle.std.proofs.lemmas.List.Sorted.{All-permutation, IsPermutation-sym}
use Rattle.std.proofs.lemmas.List.Sums.{AllPass-from_list_all, list_all-from_AllPass}
use Rattle.elf_view.specs.Header.{SegmentView, segments_of}
use Rattle.elf_view.specs.NoteList.{all_rests}
use Rattle.elf_view.specs.Sound.{Check, Row, row_of, passes, is_passed, rows_among, note_rows, table_rows, IsSound, IsFirstFailing, first_failing, first_fault_among, first_fault, header_checks, segment_checks, note_checks, header_fault, segment_fault, note_fault, fault_at, next_index, is_note_whole, AreNotesWhole}
use Rattle.elf_view.specs.declared.faults.Want.{Want}
use Rattle.elf_view.specs.declared.faults.Want.TheVariants.{Core, Exec}
use Rattle.elf_view.specs.declared.faults.ElfFault.{ElfFault}
use Rattle.elf_view.specs.declared.faults.ElfField.{ElfField}

-- the fault of the first row that fails
fault_among : List Row → Option ElfFault
fault_among [] = None
fault_among (row ∷ rows) = cond row.0 (Some row.1) (fault_among rows)

behind : (t : Bool) (f : ElfFault) (a b : Option ElfFault) → cond t (Some f) (option_or a b) ≡ option_or (cond t (Some f) a) b
behind true f a b = refl
behind false f a b = refl

fault_append : (xs ys : List Row) → fault_among (xs ++ ys) ≡ option_or (fault_among xs) (fault_among ys)
unfolding fault_among
fault_append [] ys = refl
fault_append (x ∷ xs) ys = ap (cond x.0 (Some x.1)) (fault_append xs ys) ∙ behind x.0 x.1 (fault_among xs) (fault_among ys)

through : (i : ℕ) (t : Bool) (f : ElfField) (o : Option ElfField) → cond t (Some (fault_at i f)) (option_map (fault_at i) o) ≡ option_map (fault_at i) (cond t (Some f) o)
through i true f o = refl
through i false f o = refl

of_checks : (i : ℕ) (checks : List Check) → fault_among (map (row_of i) checks) ≡ option_map (fault_at i) (first_failing checks)
unfolding fault_among
of_checks i [] = refl
of_checks i (c ∷ cs) = ap (cond c.0 (Some (fault_at i c.1))) (of_checks i cs) ∙ through i c.0 c.1 (first_failing cs)

of_items : {A : Type 0} → (checks : A → List Check) (i : ℕ) (items : List A) → fault_among (rows_among checks i items) ≡ first_fault_among checks i items
unfolding fault_among rows_among first_fault_among
of_items checks i [] = refl
of_items checks i (x ∷ xs) =
    fault_append (map (row_of i) (checks x)) (rows_among checks (next_index i) xs)
    ∙ ap (λ o. option_or o (fault_among (rows_among checks (next_index i) xs))) (of_checks i (checks x))
    ∙ ap (option_or (option_map (fault_at i) (first_failing (checks x)))) (of_items checks (next_index i) xs)

of_notes : (want : Want) (b : List ℕ) → fault_among (note_rows want b) ≡ note_fault want b
unfolding fault_among
of_notes Core b = of_items note_checks 0 (all_rests (segments_of b))
of_notes Exec b = refl

of_table : (want : Want) (b : List ℕ) → fault_among (table_rows want b) ≡ first_fault want b
unfolding table_rows first_fault
of_table want b =
    let segments = rows_among (segment_checks want b) 0 (segments_of b) in
    fault_append (map (row_of 0) (header_checks want b)) (segments ++ note_rows want b)
    ∙ ap (λ o. option_or o (fault_among (segments ++ note_rows want b))) (of_checks 0 (header_checks want b))
    ∙ ap (option_or (header_fault want b)) (fault_append segments (note_rows want b)
    ∙ ap (λ o. option_or o (fault_among (note_rows want b))) (of_items (segment_checks want b) 0 (segments_of b))
    ∙ ap (option_or (segment_fault want b)) (of_notes want b))

none_or : (t : Bool) (f : ElfFault) (o : Option ElfFault) (rest : Bool) → is_none o ≡ rest → is_none (cond t (Some f) o) ≡ (not t && rest)
none_or true f o rest h = refl
none_or false f o rest h = h

none_where_all_pass : (rows : List Row) → is_none (fault_among rows) ≡ list_all passes rows
unfolding fault_among
none_where_all_pass [] = refl
none_where_all_pass (row ∷ rows) = none_or row.0 row.1 (fault_among rows) (list_all passes rows) (none_where_all_pass rows)

-- there is no fault exactly where each row passes
pub none_is_sound : (want : Want) (b : List ℕ) → is_none (first_fault want b) ≡ list_all passes (table_rows want b)
none_is_sound want b = ap is_none (sym (of_table want b)) ∙ none_where_all_pass (table_rows want b)

pub no_fault : (want : Want) (b : List ℕ) → IsSound want b → is_none (first_fault want b) ≡ true
no_fault want b sound = none_is_sound want b ∙ sound

pub sound_from : (want : Want) (b : List ℕ) → None ≡ first_fault want b → IsSound want b
sound_from want b none = sym (none_is_sound want b) ∙ ap is_none (sym none)

none_from : {A : Type 0} → (o : Option A) → is_none o ≡ true → o ≡ None
none_from None h = refl
none_from (Some x) h = absurd (false≢true h)

pub sound_is : (want : Want) (b : List ℕ) → IsSound want b ↔ (first_fault want b ≡ None)
sound_is want b = (λ sound. none_from (first_fault want b) (no_fault want b sound), λ none. sound_from want b (sym none))

-- a fault after a row that passes
place_behind : (f fault : ElfFault) (rows : List Row) → ((k : ℕ) × IsFirstFailing rows fault k) → (k : ℕ) × IsFirstFailing ((false, f) ∷ rows) fault k
place_behind f fault rows p = (suc p.0, (p.1.0, before))
  where
    before : (j : ℕ) (row : Row) → j < suc p.0 → slice_get ((false, f) ∷ rows) j ≡ Some row → passes row ≡ true
    before zero row lt is = ap passes (sym (same_Some _ _ is))
    before (suc j) row lt is = p.1.1 j row (omega arith) is

failing_first : (t : Bool) (f fault : ElfFault) (rows : List Row) → cond t (Some f) (fault_among rows) ≡ Some fault → (fault_among rows ≡ Some fault → (k : ℕ) × IsFirstFailing rows fault k) → (k : ℕ) × IsFirstFailing ((t, f) ∷ rows) fault k
failing_first true f fault rows is others = (0, (ap (λ x. Some (true, x)) (same_Some f fault is), λ j row lt. absurd (omega arith)))
failing_first false f fault rows is others = place_behind f fault rows (others is)

-- the row at some place is the fault, and those before it pass
at_place : (rows : List Row) (fault : ElfFault) → fault_among rows ≡ Some fault → (k : ℕ) × IsFirstFailing rows fault k
unfolding fault_among
at_place [] fault is = absurd (none-some fault is)
at_place (row ∷ rows) fault is = failing_first row.0 row.1 fault rows is (at_place rows fault)

pub fault_at_place : (want : Want) (b : List ℕ) (fault : ElfFault) → first_fault want b ≡ Some fault → (k : ℕ) × IsFirstFailing (table_rows want b) fault k
fault_at_place want b fault is = at_place (table_rows want b) fault (of_table want b ∙ is)

passing : (t : Bool) → not t ≡ true → t ≡ false
passing true h = absurd (false≢true h)
passing false h = refl

goes_on : (row : Row) (rest : Option ElfFault) → passes row ≡ true → cond row.0 (Some row.1) rest ≡ rest
goes_on row rest h = ap (λ t. cond t (Some row.1) rest) (passing row.0 h)

from_place : (rows : List Row) (fault : ElfFault) (k : ℕ) → IsFirstFailing rows fault k → fault_among rows ≡ Some fault
unfolding fault_among
from_place [] fault k h = absurd (none-some _ h.0)
from_place (row ∷ rows) fault zero h = ap (λ (r : Row). cond r.0 (Some r.1) (fault_among rows)) (same_Some _ _ h.0)
from_place (row ∷ rows) fault (suc k) h =
    goes_on row (fault_among rows) (h.1 0 row (omega arith) refl) ∙ from_place rows fault k (h.0, λ j r lt is. h.1 (suc j) r (omega arith) is)

pub fault_from_place : (want : Want) (b : List ℕ) (fault : ElfFault) (k : ℕ) → IsFirstFailing (table_rows want b) fault k → first_fault want b ≡ Some fault
fault_from_place want b fault k h = sym (of_table want b) ∙ from_place (table_rows want b) fault k h

-- rows in another order
pub in_any_order : (rows others : List Row) → IsPermutation rows others → list_all passes rows ≡ true → list_all passes others ≡ true
in_any_order rows others moved h =
    list_all-from_AllPass passes others (All-permutation (λ (row : Row). passes row ≡ true) rows others moved (AllPass-from_list_all passes rows h))

pub order_is_nothing : (rows others : List Row) → IsPermutation rows others → IsTrue (list_all passes rows) ↔ IsTrue (list_all passes others)
order_is_nothing rows others moved = (in_any_order rows others moved, in_any_order others rows (IsPermutation-sym rows others moved))

-- items whose checks pass
pub items_sound : {A : Type 0} → (checks : A → List Check) (i : ℕ) (items : List A) → AllByRecursion (λ x. IsTrue (list_all is_passed (checks x))) items → list_all passes (rows_among checks i items) ≡ true
unfolding rows_among
items_sound checks i [] h = refl
items_sound checks i (x ∷ xs) h =
    list_all-append passes (map (row_of i) (checks x)) (rows_among checks (next_index i) xs)
    ∙ and_from _ _ (list_all-map passes (row_of i) (checks x) ∙ h.0) (items_sound checks (next_index i) xs h.1)

none_fails : (t : Bool) (f : ElfField) (o : Option ElfField) (rest : Bool) → (is_none o ≡ true → rest ≡ true) → is_none (cond t (Some f) o) ≡ true → (not t && rest) ≡ true
none_fails true f o rest goes h = absurd (false≢true h)
none_fails false f o rest goes h = goes h

checks_passed : (checks : List Check) → is_none (first_failing checks) ≡ true → list_all is_passed checks ≡ true
checks_passed [] h = refl
checks_passed (c ∷ cs) h = none_fails c.0 c.1 (first_failing cs) (list_all is_passed cs) (checks_passed cs) h

notes_sound : (i : ℕ) (rests : List (List ℕ)) → AreNotesWhole rests → AllByRecursion (λ (rest : List ℕ). IsTrue (list_all is_passed (note_checks rest))) rests
notes_sound i [] h = tt
notes_sound i (x ∷ xs) h =
    let both = and_parts (is_note_whole x) (list_all is_note_whole xs) h in (checks_passed (note_checks x) both.0, notes_sound i xs both.1)

-- a core whose header, program headers and notes pass
pub core_sound : (b : List ℕ) → IsTrue (list_all is_passed (header_checks Core b)) → AllByRecursion (λ (s : SegmentView). IsTrue (list_all is_passed (segment_checks Core b s))) (segments_of b) → AreNotesWhole (all_rests (segments_of b)) → IsSound Core b
unfolding table_rows
core_sound b header segments notes =
    let rows = rows_among (segment_checks Core b) 0 (segments_of b) in
    list_all-append passes (map (row_of 0) (header_checks Core b)) (rows ++ note_rows Core b)
    ∙ and_from _ _ (list_all-map passes (row_of 0) (header_checks Core b) ∙ header) (list_all-append passes rows (note_rows Core b)
    ∙ and_from _ _ (items_sound (segment_checks Core b) 0 (segments_of b) segments) (items_sound note_checks 0 (all_rests (segments_of b)) (notes_sound 0 (all_rests (segments_of b)) notes)))

-- an image that is refused is not sound
pub refused : {A E : Type 0} → (r : Result A E) (fault : ElfFault) (want : Want) (b : List ℕ) → IsErr r → Some fault ≡ first_fault want b → IsOk r ↔ IsSound want b
refused (Ok x) fault want b err is = absurd (false≢true err)
refused (Err e) fault want b err is = (λ ok. absurd (false≢true ok), λ sound. absurd (none-some fault (sym (is ∙ (sound_is want b).0 sound))))

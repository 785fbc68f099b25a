-- Entries and the cases that they are: one looked up by its number, some left out, one pinned.
use Rattle.std.proofs.Common.{◌≡◌, inl, inr, ℕ, zero, suc, ◌+◌, ◌<◌, ◌≤◌, Bool, true, false, ◌||◌, cond, not, List, [], ◌∷◌, length, map, get_or, set, drop, refl, sym, ap, ◌∙◌, arith, None, Some}
use Rattle.std.proofs.lemmas.List.{drop-drop, drop-set-add, get_or-drop}
use Rattle.std.proofs.lemmas.Bool.{eq-eqb, ne_eqb, cases_eq}
use Rattle.std.specs.List.{HoldsAt, filter, remove}
use Rattle.arrayvec.specs.ArrayVec.{ArrayVec}
use Rattle.journal_layout.specs.declared.entry.Entry.{Entry}
use Rattle.journal_layout.specs.Case.{Case, case_of}
use Rattle.journal_layout.specs.Folding.{dropped, with_pin, with_label, is_among}
use Rattle.journal_layout.specs.Soundness.{Rise, case_numbered}
use Rattle.journal_layout.specs.Live.{seq_of_case}
use Rattle.journal_layout.specs.LiveFinds.{above_elsewhere, label_elsewhere}

-- the entries left by a test of their numbers are the cases left by it
pub others_are : (seqs : List ℕ) (es : List Entry) → map case_of (filter (λ (e : Entry). not (is_among seqs e.seq)) es) ≡ dropped seqs (map case_of es)
others_are seqs [] = refl
others_are seqs (e ∷ rest) =
    elim (not (is_among seqs e.seq)) as (λ (b : Bool). map case_of (cond b (e ∷ filter (λ (x : Entry). not (is_among seqs x.seq)) rest) (filter (λ (x : Entry). not (is_among seqs x.seq)) rest))
    ≡ cond b (case_of e ∷ dropped seqs (map case_of rest)) (dropped seqs (map case_of rest))) [
      | true ↦ ap (λ (l : List Case). case_of e ∷ l) (others_are seqs rest)
      | false ↦ others_are seqs rest
    ]

abbrev pub seqs_of : List Entry → List ℕ
seqs_of es = map seq_of_case (map case_of es)

-- a number among those that rise is above the one before them
pub entry_above : (last : ℕ) (es : List Entry) (i : ℕ) (e : Entry) → Rise last (seqs_of es) → i < length es → last < (get_or es i e).seq
entry_above last [] i e rise within = absurd (omega arith)
entry_above last (x ∷ rest) zero e rise within = rise.0
entry_above last (x ∷ rest) (suc i) e rise within = omega (arith, rise.0, entry_above x.seq rest i e rise.1 (omega (arith, within)))

-- a later one is the greater one
pub entries_rise : (last : ℕ) (es : List Entry) (e : Entry) → Rise last (seqs_of es) → (i j : ℕ) → i ≤ j → j < length es → (get_or es i e).seq ≤ (get_or es j e).seq
entries_rise last [] e rise i j le within = absurd (omega arith)
entries_rise last (x ∷ rest) e rise zero zero le within = omega arith
entries_rise last (x ∷ rest) e rise zero (suc j) le within = omega (arith, entry_above x.seq rest j e rise.1 (omega (arith, within)))
entries_rise last (x ∷ rest) e rise (suc i) zero le within = absurd (omega arith)
entries_rise last (x ∷ rest) e rise (suc i) (suc j) le within = entries_rise x.seq rest e rise.1 i j (omega (arith, le)) (omega (arith, within))

-- the case of a number is the entry of it
pub found_at : (last seq : ℕ) (es : List Entry) (i : ℕ) (e : Entry) → Rise last (seqs_of es) → i < length es → (get_or es i e).seq ≡ seq
    → case_numbered seq (map case_of es) ≡ Some (case_of (get_or es i e))
found_at last seq [] i e rise within is = absurd (omega arith)
found_at last seq (x ∷ rest) zero e rise within is = rw (eq-eqb x.seq seq is) refl
found_at last seq (x ∷ rest) (suc i) e rise within is =
    let low : i < length rest = omega (arith, within) in
    let above = entry_above x.seq rest i e rise.1 low in
    rw (ne_eqb x.seq seq (λ same. absurd (omega (arith, same, is)))) (found_at x.seq seq rest i e rise.1 low is)

-- no case has a number that no entry has
pub found_none : (seq : ℕ) (es : List Entry) → ((i : ℕ) (e : Entry) → i < length es → (get_or es i e).seq ≡ seq → ⊥) → case_numbered seq (map case_of es) ≡ None
found_none seq [] none = refl
found_none seq (x ∷ rest) none =
    rw (ne_eqb x.seq seq (λ same. none zero x (omega arith) same))
    (found_none seq rest (λ i e within same. none (suc i) e (omega (arith, within)) same))

-- a flag is set of no case where none has the number
pub pinned_none : (seq : ℕ) (flag : Bool) (cases : List Case) → case_numbered seq cases ≡ None → with_pin seq flag cases ≡ cases
pinned_none seq flag [] none = refl
pinned_none seq flag (c ∷ rest) none =
    elim (cases_eq c.seq seq) as (λ _. with_pin seq flag (c ∷ rest) ≡ c ∷ rest) [
      | inl same ↦ absurd (let e = rw (eq-eqb c.seq seq same) at none in cc)
      | inr other ↦ rw (ne_eqb c.seq seq other) (ap (λ (l : List Case). c ∷ l) (pinned_none seq flag rest (rw (ne_eqb c.seq seq other) at none)))
    ]

-- nor of those whose numbers are greater
pinned_above : (last seq : ℕ) (flag : Bool) (cases : List Case) → seq ≤ last → Rise last (map seq_of_case cases) → with_pin seq flag cases ≡ cases
pinned_above last seq flag [] low rise = refl
pinned_above last seq flag (c ∷ rest) low rise =
    let above = rise.0 in
    rw (ne_eqb c.seq seq (λ same. absurd (omega (arith, same)))) (ap (λ (l : List Case). c ∷ l) (pinned_above c.seq seq flag rest (omega arith) rise.1))

-- the flag set of the entry of a number is set of the case of it
pub pinned_at : (last seq : ℕ) (flag : Bool) (es : List Entry) (i : ℕ) (e : Entry) → Rise last (seqs_of es) → i < length es → (get_or es i e).seq ≡ seq
    → map case_of (set es i (record (get_or es i e) { pinned = flag })) ≡ with_pin seq flag (map case_of es)
pinned_at last seq flag [] i e rise within is = absurd (omega arith)
pinned_at last seq flag (x ∷ rest) zero e rise within is =
    rw (eq-eqb x.seq seq is)
    (ap (λ (l : List Case). record (case_of x) { pinned = flag } ∷ l) (sym (pinned_above x.seq seq flag (map case_of rest) (omega (arith, is)) rise.1)))
pinned_at last seq flag (x ∷ rest) (suc i) e rise within is =
    let low : i < length rest = omega (arith, within) in
    let above = entry_above x.seq rest i e rise.1 low in
    rw (ne_eqb x.seq seq (λ same. absurd (omega (arith, same, is)))) (ap (λ (l : List Case). case_of x ∷ l) (pinned_at x.seq seq flag rest i e rise.1 low is))

-- the same of a label
pub labelled_none : (seq : ℕ) (text : List ℕ) (cases : List Case) → case_numbered seq cases ≡ None → with_label seq text cases ≡ cases
labelled_none seq text [] none = refl
labelled_none seq text (c ∷ rest) none =
    elim (cases_eq c.seq seq) as (λ _. with_label seq text (c ∷ rest) ≡ c ∷ rest) [
      | inl same ↦ absurd (let e = rw (eq-eqb c.seq seq same) at none in cc)
      | inr other ↦ rw (ne_eqb c.seq seq other) (ap (λ (l : List Case). c ∷ l) (labelled_none seq text rest (rw (ne_eqb c.seq seq other) at none)))
    ]

labelled_at : (last seq : ℕ) (label : ArrayVec ℕ) (es : List Entry) (i : ℕ) (e : Entry) → Rise last (seqs_of es) → i < length es → (get_or es i e).seq ≡ seq
    → map case_of (set es i (record (get_or es i e) { label = label })) ≡ with_label seq label.items (map case_of es)
labelled_at last seq label [] i e rise within is = absurd (omega arith)
labelled_at last seq label (x ∷ rest) zero e rise within is =
    rw (eq-eqb x.seq seq is)
    (ap (λ (l : List Case). record (case_of x) { label = label.items } ∷ l)
    (sym (label_elsewhere seq label.items (map case_of rest) (above_elsewhere seq x.seq (map case_of rest) (omega (arith, is)) rise.1))))
labelled_at last seq label (x ∷ rest) (suc i) e rise within is =
    let low : i < length rest = omega (arith, within) in
    let above = entry_above x.seq rest i e rise.1 low in
    rw (ne_eqb x.seq seq (λ same. absurd (omega (arith, same, is)))) (ap (λ (l : List Case). case_of x ∷ l) (labelled_at x.seq seq label rest i e rise.1 low is))

-- where no case has a number, none is left out by it
pub dropped_none : (seq : ℕ) (cases : List Case) → case_numbered seq cases ≡ None → dropped (seq ∷ []) cases ≡ cases
dropped_none seq [] none = refl
dropped_none seq (c ∷ rest) none =
    elim (cases_eq c.seq seq) as (λ _. dropped (seq ∷ []) (c ∷ rest) ≡ c ∷ rest) [
      | inl same ↦ absurd (let e = rw (eq-eqb c.seq seq same) at none in cc)
      | inr other ↦
          let e = ne_eqb c.seq seq other in
          ap (λ (t : Bool). cond (not (t || false)) (c ∷ dropped (seq ∷ []) rest) (dropped (seq ∷ []) rest)) e
          ∙ ap (λ (l : List Case). c ∷ l) (dropped_none seq rest (rw e at none))
    ]

-- nor of those whose numbers are greater
dropped_above : (last seq : ℕ) (cases : List Case) → seq ≤ last → Rise last (map seq_of_case cases) → dropped (seq ∷ []) cases ≡ cases
dropped_above last seq [] low rise = refl
dropped_above last seq (c ∷ rest) low rise =
    let above = rise.0 in
    ap (λ (t : Bool). cond (not (t || false)) (c ∷ dropped (seq ∷ []) rest) (dropped (seq ∷ []) rest)) (ne_eqb c.seq seq (λ same. absurd (omega (arith, same))))
    ∙ ap (λ (l : List Case). c ∷ l) (dropped_above c.seq seq rest (omega arith) rise.1)

-- without the entry of a number the others are the cases left by it
pub removed_at : (last seq : ℕ) (es : List Entry) (i : ℕ) → Rise last (seqs_of es) → i < length es → HoldsAt (λ (e : Entry). e.seq ≡ seq) es i
    → map case_of (remove es i) ≡ dropped (seq ∷ []) (map case_of es)
removed_at last seq [] i rise within is = absurd (omega arith)
removed_at last seq (x ∷ rest) zero rise within is =
    sym (ap (λ (t : Bool). cond (not (t || false)) (case_of x ∷ dropped (seq ∷ []) (map case_of rest)) (dropped (seq ∷ []) (map case_of rest))) (eq-eqb x.seq seq (is x))
    ∙ dropped_above x.seq seq (map case_of rest) (omega (arith, is x)) rise.1)
removed_at last seq (x ∷ rest) (suc i) rise within is =
    let low : i < length rest = omega (arith, within) in
    let above = entry_above x.seq rest i x rise.1 low in
    ap (λ (l : List Case). case_of x ∷ l) (removed_at x.seq seq rest i rise.1 low is)
    ∙ sym (ap (λ (t : Bool). cond (not (t || false)) (case_of x ∷ dropped (seq ∷ []) (map case_of rest)) (dropped (seq ∷ []) (map case_of rest))) (ne_eqb x.seq seq (λ same. absurd (omega (arith, same, is x)))))

-- the live entries among all, where one of them is taken out, and where a flag is set
pub live_removed : (es : List Entry) (first i : ℕ) → first + i < length es → drop first (remove es (first + i)) ≡ remove (drop first es) i
live_removed es zero i within = let e : zero + i ≡ i = omega arith in rw e refl
live_removed [] (suc n) i within = absurd (omega arith)
live_removed (x ∷ rest) (suc n) i within = let e : suc n + i ≡ suc (n + i) = omega arith in rw e (live_removed rest n i (omega (arith, within)))

pub first_removed : (es : List Entry) (first place : ℕ) → place ≤ 0 → drop (first + 1) es ≡ remove (drop first es) place
first_removed es first zero low = sym (drop-drop 1 first es)
first_removed es first (suc p) low = absurd (omega arith)

pub live_pinned : (es : List Entry) (first i seq : ℕ) (flag : Bool) (e : Entry) → Rise 0 (seqs_of (drop first es)) → i < length (drop first es) → (get_or (drop first es) i e).seq ≡ seq
    → map case_of (drop first (set es (first + i) (record (get_or es (first + i) e) { pinned = flag }))) ≡ with_pin seq flag (map case_of (drop first es))
live_pinned es first i seq flag e rise within is =
    ap (map case_of) (drop-set-add first es i (record (get_or es (first + i) e) { pinned = flag })
    ∙ ap (λ (x : Entry). set (drop first es) i (record x { pinned = flag })) (sym (get_or-drop first es i e)))
    ∙ pinned_at 0 seq flag (drop first es) i e rise within is

pub live_labelled : (es : List Entry) (first i seq : ℕ) (label : ArrayVec ℕ) (e : Entry) → Rise 0 (seqs_of (drop first es)) → i < length (drop first es) → (get_or (drop first es) i e).seq ≡ seq
    → map case_of (drop first (set es (first + i) (record (get_or es (first + i) e) { label = label }))) ≡ with_label seq label.items (map case_of (drop first es))
live_labelled es first i seq label e rise within is =
    ap (map case_of) (drop-set-add first es i (record (get_or es (first + i) e) { label = label })
    ∙ ap (λ (x : Entry). set (drop first es) i (record x { label = label })) (sym (get_or-drop first es i e)))
    ∙ labelled_at 0 seq label (drop first es) i e rise within is

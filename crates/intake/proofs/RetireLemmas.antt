-- How the cases that the rule drops are dropped.
use Rattle.std.proofs.Common.{◌≡◌, ℕ, zero, suc, ◌+◌, ◌<◌, Bool, true, false, not, ◌&&◌, cond, List, [], ◌∷◌, length, map, get_or, refl, sym, ap, ◌∙◌, subst, arith, Some, Err}
use Rattle.std.specs.List.{AllByRecursion, Contains}
use Rattle.std.specs.List.Sorted.{IsStrictlyIncreasing}
use Rattle.std.proofs.lemmas.List.Elements.{All-contains_itself, recursion_from_All}
use Rattle.retention.specs.Rule.{IsDecision, goes, is_old, is_spare, seq_of}
use Rattle.retention.specs.declared.Brief.{Brief}
use Rattle.retention.specs.declared.Policy.{Policy}
use Rattle.journal_layout.specs.Case.{Case, case_of}
use Rattle.journal_layout.specs.Live.{AreLive, seq_of_case}
use Rattle.journal_layout.specs.LiveFinds.{drop_sound, live_found, live_number}
use Rattle.journal_layout.specs.Record.{Drop}
use Rattle.journal_layout.specs.Soundness.{case_numbered, IsDroppable, Rise}
use Rattle.journal_layout.specs.Standing.{folded_of}
use Rattle.journal_layout.specs.declared.entry.Entry.{Entry}
use Rattle.case_journal.specs.Append.{MayFollow}
use Rattle.case_journal.specs.Journaled.{Journaled}
use Rattle.intake.specs.Contents.{images_without}
use Rattle.intake.specs.Retiring.{brief_of_entry, seq_of_entry}
use Rattle.intake.specs.State.{ArchiveState}
use Rattle.intake.specs.Step.{DropStep, RetireStep, RetiresSome, brief_of}
use Rattle.intake.specs.declared.faults.ArchiveFault.{ArchiveFault}
use Rattle.intake.specs.declared.faults.ArchiveFault.TheVariants as fault

-- numbers that rise

rise_step : (last : ℕ) (xs : List ℕ) (k : ℕ) → Rise last xs → suc k < length xs → get_or xs k 0 < get_or xs (suc k) 0
rise_step last [] k rise low = absurd (omega arith)
rise_step last (x ∷ []) k rise low = absurd (omega arith)
rise_step last (x ∷ y ∷ rest) zero rise low = rise.1.0
rise_step last (x ∷ y ∷ rest) (suc k) rise low = rise_step x (y ∷ rest) k rise.1 (omega arith)

rising : (last : ℕ) (xs : List ℕ) → Rise last xs → IsStrictlyIncreasing xs
rising last xs rise k low = let next : suc k ≡ k + 1 = omega arith in subst (λ j. get_or xs k 0 < get_or xs j 0) next (rise_step last xs k rise (omega arith))

rise_from : (last : ℕ) (xs : List ℕ) → (0 < length xs → last < get_or xs 0 0) → ((k : ℕ) → suc k < length xs → get_or xs k 0 < get_or xs (suc k) 0) → Rise last xs
rise_from last [] first next = tt
rise_from last (x ∷ rest) first next = (first (omega arith), rise_from x rest (λ some. next 0 (omega arith)) (λ k low. next (suc k) (omega arith)))

-- entries and cases

seqs_same : (entries : List Entry) → map seq_of_entry entries ≡ map seq_of_case (map case_of entries)
seqs_same [] = refl
seqs_same (e ∷ rest) = ap (λ (l : List ℕ). e.seq ∷ l) (seqs_same rest)

pub briefs_same : (entries : List Entry) → map brief_of_entry entries ≡ map brief_of (map case_of entries)
briefs_same [] = refl
briefs_same (e ∷ rest) = ap (λ (l : List Brief). brief_of_entry e ∷ l) (briefs_same rest)

pub seqs_of_briefs : (entries : List Entry) → map seq_of (map brief_of_entry entries) ≡ map seq_of_entry entries
seqs_of_briefs [] = refl
seqs_of_briefs (e ∷ rest) = ap (λ (l : List ℕ). e.seq ∷ l) (seqs_of_briefs rest)

pub decision_of : (policy : Policy) (entries : List Entry) (cases : List Case) (dropped : List ℕ) (unmet : Bool) → map case_of entries ≡ cases
    → IsDecision policy (map brief_of_entry entries) dropped unmet → IsDecision policy (map brief_of cases) dropped unmet
decision_of policy entries cases dropped unmet are decision =
    subst (λ (bs : List Brief). IsDecision policy bs dropped unmet) (briefs_same entries ∙ ap (map brief_of) are) decision

pub entries_rise : (limit : ℕ) (entries : List Entry) (cases : List Case) (next : ℕ) → map case_of entries ≡ cases → AreLive limit cases next → IsStrictlyIncreasing (map seq_of_entry entries)
entries_rise limit entries cases next are live =
    subst IsStrictlyIncreasing (sym (seqs_same entries ∙ ap (map seq_of_case) are)) (rising 0 (map seq_of_case cases) live.rise)

-- the cases that go may be dropped

old_free : (p x : Bool) → (not p && x) ≡ true → p ≡ false
old_free false x e = refl
old_free true x e = cc

droppable : (policy : Policy) (n : ℕ) (all sub : List Case) → AllByRecursion (λ (c : Case). case_numbered c.seq all ≡ Some c) sub
    → AllByRecursion (IsDroppable all) (map seq_of (goes policy n (map brief_of sub)))
droppable policy n all [] each = tt
droppable policy zero all (c ∷ rest) each =
    elim (is_old policy (brief_of c)) as (λ t. is_old policy (brief_of c) ≡ t → AllByRecursion (IsDroppable all) (map seq_of (cond t (brief_of c ∷ goes policy zero (map brief_of rest)) (goes policy zero (map brief_of rest))))) [
      | true ↦ λ e. ((c, each.0, old_free c.pinned _ e), droppable policy zero all rest each.1)
      | false ↦ λ e. droppable policy zero all rest each.1
    ] refl
droppable policy (suc n) all (c ∷ rest) each =
    elim (is_old policy (brief_of c)) as (λ t. is_old policy (brief_of c) ≡ t → AllByRecursion (IsDroppable all) (map seq_of (cond t (brief_of c ∷ goes policy (suc n) (map brief_of rest))
    (cond (is_spare policy (brief_of c)) (brief_of c ∷ goes policy n (map brief_of rest)) (goes policy (suc n) (map brief_of rest)))))) [
      | true ↦ λ e. ((c, each.0, old_free c.pinned _ e), droppable policy (suc n) all rest each.1)
      | false ↦ λ e. elim (is_spare policy (brief_of c)) as (λ t. is_spare policy (brief_of c) ≡ t → AllByRecursion (IsDroppable all) (map seq_of (cond t (brief_of c ∷ goes policy n (map brief_of rest)) (goes policy (suc n) (map brief_of rest))))) [
        | true ↦ λ f. ((c, each.0, old_free c.pinned _ f), droppable policy n all rest each.1)
        | false ↦ λ f. droppable policy (suc n) all rest each.1
      ] refl
    ] refl

pub retire_may : (j : Journaled) (policy : Policy) (dropped : List ℕ) (unmet : Bool) → AreLive j.standing.shape.data_blocks j.standing.cases j.standing.next
    → IsDecision policy (map brief_of j.standing.cases) dropped unmet → IsStrictlyIncreasing dropped → 0 < length dropped → MayFollow j.standing (Drop dropped)
retire_may j policy dropped unmet live decision rises some =
    drop_sound j.standing.shape.data_blocks (folded_of j.standing) dropped live some
    (rise_from 0 dropped (λ _. positive dropped each some) (λ k low. (let next : k + 1 ≡ suc k = omega arith in subst (λ i. get_or dropped k 0 < get_or dropped i 0) next (rises k (omega arith)))))
    each
  where
    positive : (l : List ℕ) → AllByRecursion (IsDroppable j.standing.cases) l → 0 < length l → 0 < get_or l 0 0
    positive [] all low = absurd (omega arith)
    positive (seq ∷ rest) all low = let n = live_number j.standing.shape.data_blocks j.standing.cases j.standing.next seq all.0.0 live all.0.1 in omega (arith, n.0)

    found : (l : List Case) → AllByRecursion (Contains j.standing.cases) l → AllByRecursion (λ (c : Case). case_numbered c.seq j.standing.cases ≡ Some c) l
    found [] all = tt
    found (c ∷ rest) all = (live_found j.standing.shape.data_blocks j.standing.cases j.standing.next c live all.0, found rest all.1)

    each : AllByRecursion (IsDroppable j.standing.cases) dropped
    each =
        subst (AllByRecursion (IsDroppable j.standing.cases)) (sym decision.dropped_are)
        (droppable policy decision.count j.standing.cases j.standing.cases
        (found j.standing.cases (recursion_from_All (Contains j.standing.cases) j.standing.cases (All-contains_itself j.standing.cases))))

pub retire_rises : (j : Journaled) (policy : Policy) (dropped : List ℕ) (unmet : Bool) → AreLive j.standing.shape.data_blocks j.standing.cases j.standing.next
    → IsDecision policy (map brief_of j.standing.cases) dropped unmet → IsStrictlyIncreasing dropped → 0 < length dropped → Rise 0 dropped
retire_rises j policy dropped unmet live decision rises some = (retire_may j policy dropped unmet live decision rises some).1

-- the step of a refusal
pub retire_err : (s : ArchiveState) (policy : Policy) (dropped : List ℕ) (unmet : Bool) (f : ArchiveFault) (after : ArchiveState) → RetiresSome s policy dropped unmet → DropStep s dropped (Err f) after → RetireStep s policy (Err f) after
retire_err s policy dropped unmet fault.JournalFull after r step = (dropped, unmet, r, step.0, step.1)
retire_err s policy dropped unmet fault.OutOfMemory after r step = (r.0, step.1)
retire_err s policy dropped unmet fault.Disk after r step = (dropped, unmet, r, step.0, step.1)
retire_err s policy dropped unmet fault.Stopped after r step = absurd step
retire_err s policy dropped unmet fault.BadSlot after r step = absurd step
retire_err s policy dropped unmet fault.SlotBusy after r step = absurd step
retire_err s policy dropped unmet fault.NameTaken after r step = absurd step
retire_err s policy dropped unmet fault.NoStream after r step = absurd step
retire_err s policy dropped unmet fault.TooLong after r step = absurd step
retire_err s policy dropped unmet fault.SpaceFull after r step = absurd step
retire_err s policy dropped unmet fault.NoCase after r step = absurd step
retire_err s policy dropped unmet fault.Pinned after r step = absurd step
retire_err s policy dropped unmet fault.NumbersSpent after r step = absurd step
retire_err s policy dropped unmet fault.OldVersion after r step = absurd step

-- without any numbers all images stay
pub all_stay : (f : Case → List ℕ) (cases : List Case) → images_without [] cases (map f cases) ≡ map f cases
all_stay f [] = refl
all_stay f (c ∷ rest) = ap (λ (l : List (List ℕ)). f c ∷ l) (all_stay f rest)

pub some_dropped : (xs : List ℕ) → (xs ≡ [] → ⊥) → 0 < length xs
some_dropped [] none = absurd (none refl)
some_dropped (x ∷ xs) none = omega arith

pub none_dropped : (xs : List ℕ) → length xs ≡ 0 → xs ≡ []
none_dropped [] e = refl
none_dropped (x ∷ xs) e = absurd (omega (arith, e))

-- the numbers of those that go rise, also where none goes
pub retired_rise : (j : Journaled) (policy : Policy) (dropped : List ℕ) (unmet : Bool) → AreLive j.standing.shape.data_blocks j.standing.cases j.standing.next
    → IsDecision policy (map brief_of j.standing.cases) dropped unmet → IsStrictlyIncreasing dropped → Rise 0 dropped
retired_rise j policy [] unmet live decision rises = tt
retired_rise j policy (seq ∷ seqs) unmet live decision rises = retire_rises j policy (seq ∷ seqs) unmet live decision rises (omega arith)

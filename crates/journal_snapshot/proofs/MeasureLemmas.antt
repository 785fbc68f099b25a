-- What the records of cases measure.
use Rattle.std.proofs.Common.{◌≡◌, ◌+◌, ◌<◌, ◌≤◌, ◌∙◌, [], ◌∷◌, ◌++◌, ℕ, suc, Bool, List, Some, length, take, get_or, sym, ap, subst, arith, length-append}
use Rattle.std.proofs.Math.Seq.{take-suc}
use Rattle.std.proofs.lemmas.List.Elements.{All-push, All-pop}
use Rattle.journal_layout.specs.declared.entry.Entry.{Entry}
use Rattle.journal_layout.specs.Record.{Store, Label, record_size, spelling}
use Rattle.journal_layout.specs.Case.{case_of, numbered}
use Rattle.journal_layout.specs.Folding.{sizes}
use Rattle.journal_layout.specs.Rewriting.{label_records}
use Rattle.journal_layout.specs.SpellLaws.{length-spelling}
use Rattle.journal_snapshot.specs.declared.change.Change.{Change}
use Rattle.journal_snapshot.specs.declared.measure.Measure.{Measure}
use Rattle.journal_snapshot.specs.Writing.{stored_as, written, written_case, written_entry, written_entries, AreAtMost}
use Rattle.journal_snapshot.specs.Measuring.{Grows, snapshot_bytes}
use Rattle.journal_snapshot.proofs.EntryLemmas.{written_more, written_within}

-- a flag changes nothing of a record's size
flag_size : (seq : ℕ) (e : Entry) (flag : Bool) → record_size (Store (numbered seq (case_of e))) ≡ length (written seq e flag)
flag_size seq e flag = sym (length-spelling (Store (stored_as seq e flag)))

-- the records of a case measure what is written of it
pub case_length : (seq : ℕ) (e : Entry) (flag : Bool) (text : List ℕ)
    → record_size (Store (numbered seq (case_of e))) + sizes (label_records seq text) ≡ length (written_case seq e flag text)
case_length seq e flag [] = omega (arith, flag_size seq e flag, length-append (written seq e flag) [])
case_length seq e flag (b ∷ rest) =
    omega (arith, flag_size seq e flag, length-spelling (Label seq (b ∷ rest)), length-append (written seq e flag) (spelling (Label seq (b ∷ rest))))

-- with no record more
pub grows_nothing : (m : Measure) (bytes : List ℕ) (half : ℕ) → [] ≡ bytes → m.used + 1 ≤ half → Grows m (length bytes) half (Some m)
grows_nothing m bytes half none in_half = subst (λ (l : List ℕ). Grows m (length l) half (Some m)) none (omega arith, in_half, omega arith, omega arith, omega arith, λ n low some. low)

-- One entry more of those that are measured.
module _ (ch : Change) (es : List Entry) (i half : ℕ) (e : Entry) (below : i < length es) (is : e ≡ get_or es i e) (old : Measure)
    (used : old.used ≡ 48 + length (written_entries ch (take i es))) where
  -- it does not fit
  pub overflows : half < old.used + length (written_entry ch e) + 1 → half < snapshot_bytes ch es + 1
  overflows over = omega (arith, over, used, written_within ch es i e below is)

  module _ (new : Measure) (grows : Grows old (length (written_entry ch e)) half (Some new)) where
    pub used_more : new.used ≡ 48 + length (written_entries ch (take (i + 1) es))
    used_more = omega (arith, grows.0, used, length-append (written_entries ch (take i es)) (written_entry ch e), ap length (written_more ch es i e below is))

    one_more : take i es ++ e ∷ [] ≡ take (i + 1) es
    one_more =
        let next : suc i ≡ i + 1 = omega arith in
        ap (λ (x : Entry). take i es ++ x ∷ []) is ∙ sym (take-suc es i e below) ∙ ap (λ (k : ℕ). take k es) next

    pub most_more : AreAtMost old.largest ch (take i es) → AreAtMost new.largest ch (take (i + 1) es)
    most_more most =
        let low = grows.3 in
        subst (AreAtMost new.largest ch) one_more
        (All-push (λ (x : Entry). length (written_entry ch x) ≤ new.largest) (take i es) e (λ k d lower. omega (arith, most k d lower, low)) grows.2)

    pub least_more : ((n : ℕ) → AreAtMost n ch (take i es) → old.largest ≤ n) → (n : ℕ) → AreAtMost n ch (take (i + 1) es) → new.largest ≤ n
    least_more least n most =
        let both = All-pop (λ (x : Entry). length (written_entry ch x) ≤ n) (take (i + 1) es) (take i es) (Some e) (sym one_more) most in
        grows.5 n (least n both.0) both.1

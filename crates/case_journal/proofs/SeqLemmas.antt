-- Numbers that rise, and what a binary search finds among them.
use Rattle.std.proofs.Common.{◌≡◌, ℕ, ◌<◌, ◌≤◌, List, length, map, get_or, None, sym, inl, inr, arith, Result, Ok, Err, IfSome, tests}
use Rattle.std.proofs.lemmas.Bool.{cases_lt}
use Rattle.std.specs.List.{HoldsAt}
use Rattle.std.specs.List.Sorted.{IsBinarySearchResult, IsSearchInRange, IsPartitionPoint}
use Rattle.std.proofs.lemmas.Cmp.{ranked}
use Rattle.std.specs.Result.{result_ok}
use Rattle.std.specs.declared.cmp.Ordering.TheVariants.{Less, Greater}
use Rattle.std.specs.Ordering.{nat_cmp, ordering_index}
use Rattle.journal_layout.specs.Soundness.{Rise, case_numbered}
use Rattle.journal_layout.specs.declared.entry.Entry.{Entry}
use Rattle.journal_layout.specs.Case.{case_of}
use Rattle.case_journal.proofs.EntryLemmas.{seqs_of, entries_rise, found_none}

higher : (a b seq : ℕ) → a ≤ b → ordering_index (nat_cmp a seq) ≤ ordering_index (nat_cmp b seq)
higher a b seq le = grind (arith, tests)

-- where a binary search by a number finds it among entries whose numbers rise
pub place_found : (seq : ℕ) (es : List Entry) (r : Result ℕ ℕ) → Rise 0 (seqs_of es) → IsSearchInRange r (length es) → IsBinarySearchResult (λ (e : Entry). nat_cmp e.seq seq) es r
    → IfSome (result_ok r) (λ i. (i < length es) × HoldsAt (λ (e : Entry). e.seq ≡ seq) es i) × (result_ok r ≡ None → case_numbered seq (map case_of es) ≡ None)
place_found seq es (Ok i) rise within found = ((within, λ e. ranked (get_or es i e).seq seq _ (sym (found e))), λ none. absurd (cc))
place_found seq es (Err i) rise within found = (tt, λ _. found_none seq es none)
  where
    parted : IsPartitionPoint (λ (e : Entry). nat_cmp e.seq seq ≡ Less) (λ (e : Entry). nat_cmp e.seq seq ≡ Greater) es i
    parted = found (λ a b e le low. higher (get_or es a e).seq (get_or es b e).seq seq (entries_rise 0 es e rise a b le low))

    none : (k : ℕ) (e : Entry) → k < length es → (get_or es k e).seq ≡ seq → ⊥
    none k e below is =
        elim (cases_lt k i) [
          | inl low ↦ (let g : (get_or es k e).seq < seq = ranked (get_or es k e).seq seq _ (sym (parted.0 k e (omega arith) low)) in omega (arith, is))
          | inr high ↦ (let g : seq < (get_or es k e).seq = ranked (get_or es k e).seq seq _ (sym (parted.1 k e high below)) in omega (arith, is))
        ]

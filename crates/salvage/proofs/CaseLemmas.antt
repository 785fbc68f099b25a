-- Cases that were found, one after another.
use Rattle.std.proofs.Common.{◌≡◌, ◌⊎◌, ◌==◌, ◌&&◌, ℕ, zero, suc, ◌<◌, ◌≤◌, List, [], ◌∷◌, length, map, drop, get_or, sym, ap, ◌∙◌, subst, arith}
use Rattle.std.proofs.lemmas.Bool.{and_from, and_parts, eq-eqb, eqb-true}
use Rattle.std.specs.Bool.{Decides}
use Rattle.extents.specs.declared.run_list.Run.{Run}
use Rattle.extents.specs.Runs.{blocks_of, runs_of}
use Rattle.extents.specs.RunLaws.{blocks_of_runs}
use Rattle.journal_layout.specs.Case.{Case, case_of}
use Rattle.journal_layout.specs.declared.entry.Entry.{Entry}
use Rattle.salvage.specs.Cases.{HasCase}
use Rattle.salvage.specs.Records.{HasEachBut, IsDeleted}
use Rattle.salvage.specs.Told.{HasAll}
use Rattle.salvage.specs.declared.records.Dropped.{Dropped}
use Rattle.salvage.specs.declared.records.Read.{Read}

module _ (drops : List Dropped) (cases : List Case) where
  pub each_back : (es : List Entry) (i : ℕ) (e : Entry) → i < length es → e ≡ get_or es i e → HasCase cases (case_of e) ⊎ IsDeleted drops e.seq
      → HasEachBut drops cases (map case_of (drop (suc i) es)) → HasEachBut drops cases (map case_of (drop i es))
  each_back [] i e below is here rest = absurd (omega (arith, below))
  each_back (x ∷ xs) zero e below is here rest = (subst (λ (y : Entry). HasCase cases (case_of y) ⊎ IsDeleted drops y.seq) is here, rest)
  each_back (x ∷ xs) (suc i) e below is here rest = each_back xs i e (omega (arith, below)) is here rest

  pub each_past : (es : List Entry) (i : ℕ) → length es ≤ i → HasEachBut drops cases (map case_of (drop i es))
  each_past [] zero past = tt
  each_past [] (suc i) past = tt
  each_past (x ∷ xs) zero past = absurd (omega (arith, past))
  each_past (x ∷ xs) (suc i) past = each_past xs i (omega (arith, past))

module _ (cases : List Case) where
  pub all_back : (reads : List Read) (i : ℕ) (r : Read) → i < length reads → r ≡ get_or reads i r → HasCase cases (case_of r.entry) → HasAll cases (drop (suc i) reads) → HasAll cases (drop i reads)
  all_back [] i r below is here rest = absurd (omega (arith, below))
  all_back (x ∷ xs) zero r below is here rest = (subst (λ (y : Read). HasCase cases (case_of y.entry)) is here, rest)
  all_back (x ∷ xs) (suc i) r below is here rest = all_back xs i r (omega (arith, below)) is here rest

  pub all_past : (reads : List Read) (i : ℕ) → length reads ≤ i → HasAll cases (drop i reads)
  all_past [] zero past = tt
  all_past [] (suc i) past = tt
  all_past (x ∷ xs) zero past = absurd (omega (arith, past))
  all_past (x ∷ xs) (suc i) past = all_past xs i (omega (arith, past))

  pub all_there : (reads : List Read) (i : ℕ) (r : Read) → i < length reads → r ≡ get_or reads i r → HasAll cases reads → HasCase cases (case_of r.entry)
  all_there [] i r below is all = absurd (omega (arith, below))
  all_there (x ∷ xs) zero r below is all = subst (λ (y : Read). HasCase cases (case_of y.entry)) (sym is) all.0
  all_there (x ∷ xs) (suc i) r below is all = all_there xs i r (omega (arith, below)) is all.1

run_is : (a b c d : ℕ) → a ≡ b → c ≡ d → ◌≡◌ {A = Run} (record { start = a; count = c }) (record { start = b; count = d })
run_is a b c d e f = cc

-- two runs are compared field by field
pub run_decided : (a b : Run) → Decides (a.start == b.start && a.count == b.count) (a ≡ b)
run_decided a b = (
  λ both. (let p = and_parts (a.start == b.start) (a.count == b.count) both in run_is a.start b.start a.count b.count (eqb-true a.start b.start p.0) (eqb-true a.count b.count p.1)),
  λ same. and_from (a.start == b.start) (a.count == b.count) (eq-eqb a.start b.start (ap (λ (r : Run). r.start) same)) (eq-eqb a.count b.count (ap (λ (r : Run). r.count) same)),
)

-- lists of blocks that have the same runs are the same
pub same_runs : (xs ys : List ℕ) → runs_of xs ≡ runs_of ys → ys ≡ xs
same_runs xs ys same = sym (blocks_of_runs ys) ∙ ap blocks_of (sym same) ∙ blocks_of_runs xs

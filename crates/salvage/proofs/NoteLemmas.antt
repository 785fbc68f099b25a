-- What was noted of cases that were found, one after another.
use Rattle.std.proofs.Common.{◌≡◌, ℕ, zero, suc, ◌<◌, ◌≤◌, List, [], ◌∷◌, length, map, max, drop, get_or, ap, refl, sym, subst, arith}
use Rattle.std.specs.List.{Contains}
use Rattle.journal_layout.specs.Case.{case_of}
use Rattle.journal_layout.specs.declared.entry.Entry.{Entry}
use Rattle.salvage.specs.Noting.{AreNoted, IsNotedBy, greatest_copied, number_if}
use Rattle.salvage.specs.declared.records.Read.{Read}

pub greatest_back : (reads : List Read) (i : ℕ) (r : Read) → i < length reads → r ≡ get_or reads i r
    → greatest_copied (drop i reads) ≡ max (number_if r.fate r.entry.seq) (greatest_copied (drop (suc i) reads))
greatest_back [] i r below is = absurd (omega (arith, below))
greatest_back (x ∷ xs) zero r below is = ap (λ (y : Read). max (number_if y.fate y.entry.seq) (greatest_copied xs)) (sym is)
greatest_back (x ∷ xs) (suc i) r below is = greatest_back xs i r (omega (arith, below)) is

pub greatest_past : (reads : List Read) (i : ℕ) → length reads ≤ i → greatest_copied (drop i reads) ≡ 0
greatest_past [] zero past = refl
greatest_past [] (suc i) past = refl
greatest_past (x ∷ xs) zero past = absurd (omega (arith, past))
greatest_past (x ∷ xs) (suc i) past = greatest_past xs i (omega (arith, past))

module _ (bytes : List ℕ) (reads : List Read) where
  pub noted_back : (es : List Entry) (i : ℕ) (e : Entry) (r : Read) → i < length es → e ≡ get_or es i e → Contains reads r → IsNotedBy bytes (case_of e) r
      → AreNoted bytes reads (map case_of (drop (suc i) es)) → AreNoted bytes reads (map case_of (drop i es))
  noted_back [] i e r below is has noted rest = absurd (omega (arith, below))
  noted_back (x ∷ xs) zero e r below is has noted rest = ((r, has, subst (λ (y : Entry). IsNotedBy bytes (case_of y) r) is noted), rest)
  noted_back (x ∷ xs) (suc i) e r below is has noted rest = noted_back xs i e r (omega (arith, below)) is has noted rest

  pub noted_past : (es : List Entry) (i : ℕ) → length es ≤ i → AreNoted bytes reads (map case_of (drop i es))
  noted_past [] zero past = tt
  noted_past [] (suc i) past = tt
  noted_past (x ∷ xs) zero past = absurd (omega (arith, past))
  noted_past (x ∷ xs) (suc i) past = noted_past xs i (omega (arith, past))

-- Laws of names.
use Rattle.std.proofs.Common.{◌≡◌, inl, inr, ℕ, Bool, true, false, ◌||◌, not, cond, List, [], ◌∷◌, Some, None, refl, sym, ap, ◌∙◌, nat_eq}
use Rattle.std.proofs.lemmas.Bool.{cases_eq, eq-eqb, ne_eqb}
use Rattle.std.specs.List.{list_any}
use Rattle.std.specs.BTreeSet.{BTreeSet}
use Rattle.arrayvec.specs.ArrayVec.{ArrayVec}
use Rattle.journal_layout.specs.declared.faults.Field.TheVariants as named
use Rattle.journal_layout.specs.Folding.{is_among}
use Rattle.journal_layout.specs.Reading.{name_at, name_place}
use Rattle.journal_layout.specs.Checks.{damaged}
use Rattle.journal_records.specs.Taken.{fault_of_name}
use Rattle.journal_records.specs.Named.{has_name}

same_zero : (b : ℕ) → nat_eq b 0 ≡ nat_eq 0 b
same_zero b =
    elim (cases_eq b 0) as (λ _. nat_eq b 0 ≡ nat_eq 0 b) [
      | inl same ↦ eq-eqb b 0 same ∙ sym (eq-eqb 0 b (sym same))
      | inr other ↦ ne_eqb b 0 other ∙ sym (ne_eqb 0 b (λ e. other (sym e)))
    ]

-- a NUL is among the bytes
pub among_zero : (bytes : List ℕ) → list_any (λ (b : ℕ). nat_eq b 0) bytes ≡ is_among bytes 0
among_zero [] = refl
among_zero (b ∷ rest) =
    ap (λ t. t || list_any (λ (c : ℕ). nat_eq c 0) rest) (same_zero b) ∙ ap (λ t. nat_eq 0 b || t) (among_zero rest)

-- a name with no NUL: whether it is new
pub name_fault : (at : ℕ) (rest : List ℕ) (names : BTreeSet (ℕ × ArrayVec ℕ)) → is_among (name_at rest) 0 ≡ false
    → fault_of_name at rest names ≡ cond (has_name names (name_at rest)) (Some (damaged at named.Name (name_place rest))) None
name_fault at rest names clean =
    ap (λ t. cond (t || has_name names (name_at rest)) (Some (damaged at named.Name (name_place rest))) None) clean

pub not_back : (t b : Bool) → b ≡ not t → t ≡ not b
not_back true b e = sym (ap not e)
not_back false b e = sym (ap not e)

-- The blocks of one more case are added to those of its owner, and to no other's.
use Rattle.std.proofs.Common.{◌≡◌, ◌≤◌, ℕ, ◌+◌, Bool, true, false, ◌&&◌, cond, List, Option, Some, refl, sym, ap, ◌∙◌, arith}
use Rattle.std.specs.BTreeMap.{get_by}
use Rattle.std.specs.Cmp.Lexicographic.{slice_cmp}
use Rattle.std.specs.Option.{unwrap_or}
use Rattle.std.specs.Ordering.{nat_cmp}
use Rattle.std.specs.Str.{bytes_eq}
use Rattle.std.proofs.lemmas.Slice.Eq.{bytes_eq-Decides}
use Rattle.journal_layout.specs.Case.{Case}
use Rattle.fair_share.specs.Fairness.{may_go_first, owner_of, size_of}
use Rattle.fair_share.specs.Totals.{total_in}
use Rattle.fair_share.specs.Weighing.{counted}
use Rattle.fair_share.specs.declared.choosing.Scope.{Scope}
use Rattle.fair_share.specs.declared.totals.Totals.{Totals}

-- the blocks that a table has for an owner, if it has the owner
abbrev pub found_in : Totals → List ℕ → Option ℕ
found_in t owner = get_by (λ k. slice_cmp nat_cmp owner k.now) t.blocks

uncounted : (may_go its : Bool) (size : ℕ) → its ≡ false → cond (may_go && its) size 0 ≡ 0
uncounted true its size other = ap (λ (t : Bool). cond t size 0) other
uncounted false its size other = refl

module _ (scope : Scope) (old new : Totals) (c : Case) (owner : List ℕ) (blocks : ℕ) (its : owner ≡ owner_of scope c.origin.name) (sum : blocks ≡ total_in old owner + counted scope owner c)
    (update : (k : List ℕ) → found_in new k ≡ cond (bytes_eq owner k) (Some blocks) (found_in old k)) where
  by_owner : (k : List ℕ) (t : Bool) → bytes_eq owner k ≡ t → unwrap_or (cond t (Some blocks) (found_in old k)) 0 ≡ total_in old k + counted scope k c
  by_owner k true same = sum ∙ ap (λ (l : List ℕ). total_in old l + counted scope l c) ((bytes_eq-Decides owner k).0 same)
  by_owner k false other =
      let none : counted scope k c ≡ 0 = uncounted (may_go_first c) (bytes_eq (owner_of scope c.origin.name) k) (size_of c) (ap (λ (l : List ℕ). bytes_eq l k) (sym its) ∙ other) in
      omega (arith, none)

  pub added : (k : List ℕ) → total_in new k ≡ total_in old k + counted scope k c
  added k = ap (λ (o : Option ℕ). unwrap_or o 0) (update k) ∙ by_owner k (bytes_eq owner k) refl

  slowly_by : counted scope owner c ≤ 18446744073709551615 → (k : List ℕ) (t : Bool) → bytes_eq owner k ≡ t → unwrap_or (cond t (Some blocks) (found_in old k)) 0 ≤ total_in old k + 18446744073709551615
  slowly_by few k true same =
      let same_total : total_in old owner ≡ total_in old k = ap (total_in old) ((bytes_eq-Decides owner k).0 same) in
      omega (arith, sum, same_total, few)
  slowly_by few k false other = omega arith

  pub slowly : counted scope owner c ≤ 18446744073709551615 → (k : List ℕ) → total_in new k ≤ total_in old k + 18446744073709551615
  slowly few k =
      let by = slowly_by few k (bytes_eq owner k) refl in
      let is = ap (λ (o : Option ℕ). unwrap_or o 0) (update k) in
      omega (arith, by, is)

-- The meaning of the code's tables of needed builds and of names.
use Rattle.std.specs.Prelude.{◌≡◌, ℕ, Bool, List}
use Rattle.std.specs.Borrow.{Bor}
use Rattle.std.specs.BTreeSet.{BTreeSet, contains_by}
use Rattle.std.specs.Cmp.Lexicographic.{slice_cmp}
use Rattle.std.specs.Ordering.{nat_cmp}
use Rattle.pruning.specs.Cases.{named, needed}
use Rattle.pruning.specs.declared.cases.LiveCase.{LiveCase}
use Rattle.pruning.specs.declared.kept.Kept.{Kept}

-- whether it is one of these
abbrev pub is_in : BTreeSet (Bor (List ℕ)) → List ℕ → Bool
is_in texts text = contains_by (λ k. slice_cmp nat_cmp text k.now) texts

abbrev pub has_id : Kept → List ℕ → Bool
has_id k id = is_in k.ids id

abbrev pub has_name : Kept → List ℕ → Bool
has_name k name = is_in k.names name

-- they are those of these cores
pub record Keeps (k : Kept) (cores : List LiveCase) : Type 0 where
  pub ids : (id : List ℕ) → has_id k id ≡ needed cores id
  pub names : (name : List ℕ) → has_name k name ≡ named cores name

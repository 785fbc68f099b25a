-- The blocks of the cores of each owner, as a table has them.
use Rattle.std.specs.Prelude.{◌≡◌, ℕ, List}
use Rattle.std.specs.BTreeMap.{get_by}
use Rattle.std.specs.Cmp.Lexicographic.{slice_cmp}
use Rattle.std.specs.Option.{unwrap_or}
use Rattle.std.specs.Ordering.{nat_cmp}
use Rattle.journal_layout.specs.Case.{Case}
use Rattle.fair_share.specs.Fairness.{blocks_of}
use Rattle.fair_share.specs.declared.choosing.Scope.{Scope}
use Rattle.fair_share.specs.declared.totals.Totals.{Totals}

-- the blocks that a table has for an owner; none, if it does not have the owner
abbrev pub total_in : Totals → List ℕ → ℕ
total_in t owner = unwrap_or (get_by (λ k. slice_cmp nat_cmp owner k.now) t.blocks) 0

-- for each owner they are the blocks of that owner's unpinned cores
abbrev pub AreTotals : Scope → Totals → List Case → Type 0
AreTotals scope t cases = (owner : List ℕ) → total_in t owner ≡ blocks_of scope owner cases

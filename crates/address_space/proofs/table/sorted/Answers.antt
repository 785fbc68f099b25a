use Rattle.std.proofs.Common.{ℕ, List, map, subst, rules}
use Rattle.std.specs.List.Sorted.{IsPermutation}
use Rattle.std.proofs.lemmas.List.Sorted.{IsNonDecreasingBy-from_sort_by_key, IsPermutation-map}
use Rattle.address_space.specs.Disjoint.{Extent}
use Rattle.address_space.specs.ScanWords.{row_view}
use Rattle.address_space.proofs.table.sorted.Goals as goal

pub returns-clause-whole : goal.returns-clause-whole
returns-clause-whole c extents is =
    subst (λ (l : List (ℕ × Extent)). IsPermutation l (map row_view c.sort_unstable_by_key.new.self.items)) is (IsPermutation-map row_view _ _ c.sort_unstable_by_key.ensures.permutation)

pub returns-clause-rising : goal.returns-clause-rising
returns-clause-rising c =
    IsNonDecreasingBy-from_sort_by_key (λ f. f.start) _ c.sort_unstable_by_key.ensures.sorted (λ a r q k. search rules)

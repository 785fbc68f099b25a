use Rattle.std.proofs.Common.{rules}
use Rattle.std.proofs.lemmas.List.Sorted.{IsNonDecreasingBy-from_sort_by_key, IsPermutation-map}
use Rattle.core_crashes.specs.Crashes.{CrashedSaid}
use Rattle.core_crashes.specs.Views.{crashed_said}
use Rattle.case_info.proofs.SearchLemmas.{risen}
use Rattle.case_info.proofs.crash_search.in_order.Goals as goal

pub returns-clause-all : goal.returns-clause-all
returns-clause-all c = IsPermutation-map crashed_said _ _ c.sort_unstable_by_key.ensures.permutation

pub returns-clause-rising : goal.returns-clause-rising
returns-clause-rising c =
    let after = c.sort_unstable_by_key.new.self.items in
    risen crashed_said (λ (crash : CrashedSaid). crash.number) after (IsNonDecreasingBy-from_sort_by_key (λ crash. crash.number) after c.sort_unstable_by_key.ensures.sorted (λ a r q k. search rules))

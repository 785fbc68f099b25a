use Rattle.std.proofs.Common.{rules}
use Rattle.std.proofs.lemmas.List.Sorted.{IsNonDecreasingBy-from_sort_by_key}
use Rattle.handler_files.proofs.entries.oldest_first.Goals as goal

pub returns-clause-order : goal.returns-clause-order
returns-clause-order c = IsNonDecreasingBy-from_sort_by_key (λ e. e.name.stamp) c.sort_unstable_by_key.new.self c.sort_unstable_by_key.ensures.sorted (λ a r f' k. search rules)

use Rattle.std.proofs.Common.{rules}
use Rattle.std.proofs.lemmas.List.Sorted.{IsNonDecreasingBy-from_sort_by_key}
use Rattle.address_space.specs.Orders.{key_of}
use Rattle.address_space.proofs.order.Order.of.Goals as goal

pub invariant_of-result : goal.invariant_of-result
invariant_of-result c = record { rising = IsNonDecreasingBy-from_sort_by_key key_of _ c.sort_unstable_by_key.ensures.sorted (λ a r q k. search rules) }

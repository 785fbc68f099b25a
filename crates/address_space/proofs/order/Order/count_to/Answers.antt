use Rattle.std.proofs.Common.{◌≡◌, List, true, false, leb, get_or, sym, subst, arith, rules}
use Rattle.std.specs.List.Sorted.{IsNonDecreasingBy}
use Rattle.std.proofs.lemmas.Bool.{leb-true, leb-false}
use Rattle.std.proofs.lemmas.List.Sorted.{IsPartitionPoint-from_clause, IsPartitionedBy-leb}
use Rattle.address_space.specs.Orders.{key_of}
use Rattle.address_space.specs.declared.row.Row.{Row}
use Rattle.address_space.proofs.order.Order.count_to.Goals as goal

pub returns-clause-below : goal.returns-clause-below
returns-clause-below c k d h =
    let last = c.key-last.result in
    let rising = subst (IsNonDecreasingBy key_of) (sym c.deref.ensures.value) c.args.self.now.rising in
    let parted = IsPartitionedBy-leb key_of _ last rising in
    let point = IsPartitionPoint-from_clause (λ (r : Row). leb (key_of r) last) _ _ c.partition_point.ensures.partitioned parted (λ a r q k. search rules) in
    let low = leb-true _ _ (subst (λ (l : List Row). leb (key_of (get_or l k d)) last ≡ true) c.deref.ensures.value (point.0 k d (omega arith) h)) in
    omega (arith, low, c.key-last.ensures)

pub returns-clause-above : goal.returns-clause-above
returns-clause-above c k d h g =
    let last = c.key-last.result in
    let rising = subst (IsNonDecreasingBy key_of) (sym c.deref.ensures.value) c.args.self.now.rising in
    let parted = IsPartitionedBy-leb key_of _ last rising in
    let point = IsPartitionPoint-from_clause (λ (r : Row). leb (key_of r) last) _ _ c.partition_point.ensures.partitioned parted (λ a r q k. search rules) in
    let high = leb-false _ _ (subst (λ (l : List Row). leb (key_of (get_or l k d)) last ≡ false) c.deref.ensures.value (point.1 k d h (omega (arith, c.deref.ensures.len)))) in
    omega (arith, high, c.key-last.ensures)

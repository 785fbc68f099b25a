use Rattle.std.proofs.Common.{◌≡◌, List, true, false, leb, get_or, sym, subst, arith, rules}
use Rattle.std.specs.List.Sorted.{IsNonDecreasingBy}
use Rattle.std.proofs.lemmas.Bool.{leb-true, leb-false}
use Rattle.std.proofs.lemmas.List.Sorted.{IsPartitionPoint-from_clause, IsPartitionedBy-leb}
use Rattle.address_space.specs.declared.row.Row.{Row}
use Rattle.address_space.proofs.table.Table.count_to.Goals as goal

pub returns-clause-below : goal.returns-clause-below
returns-clause-below c k d h =
    let at = c.args.at in
    let rising = subst (IsNonDecreasingBy (λ (r : Row). r.start)) (sym c.deref.ensures.value) c.args.self.now.rising in
    let parted = IsPartitionedBy-leb (λ (r : Row). r.start) _ at rising in
    let point = IsPartitionPoint-from_clause (λ (r : Row). leb r.start at) _ _ c.partition_point.ensures.partitioned parted (λ a r q k. search rules) in
    leb-true _ _ (subst (λ (l : List Row). leb (get_or l k d).start at ≡ true) c.deref.ensures.value (point.0 k d (omega arith) h))

pub returns-clause-above : goal.returns-clause-above
returns-clause-above c k d h g =
    let at = c.args.at in
    let rising = subst (IsNonDecreasingBy (λ (r : Row). r.start)) (sym c.deref.ensures.value) c.args.self.now.rising in
    let parted = IsPartitionedBy-leb (λ (r : Row). r.start) _ at rising in
    let point = IsPartitionPoint-from_clause (λ (r : Row). leb r.start at) _ _ c.partition_point.ensures.partitioned parted (λ a r q k. search rules) in
    leb-false _ _ (subst (λ (l : List Row). leb (get_or l k d).start at ≡ false) c.deref.ensures.value (point.1 k d h (omega (arith, c.deref.ensures.len))))

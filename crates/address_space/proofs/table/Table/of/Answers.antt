use Rattle.std.proofs.Common.{◌≤◌, List, map, length, refl, sym, subst}
use Rattle.std.proofs.lemmas.Bool.{false≢true}
use Rattle.std.specs.List.{AllAdjacentBelow}
use Rattle.std.specs.List.Sorted.{IsNonDecreasingBy, IsPermutation}
use Rattle.address_space.specs.Disjoint.{taking_from}
use Rattle.address_space.specs.ScanWords.{past_of, row_view}
use Rattle.address_space.specs.declared.row.Row.{Row}
use Rattle.address_space.proofs.Sorting.{disjoint, overlapping}
use Rattle.address_space.proofs.table.Table.of.Goals as goal

-- two that overlap are not disjoint
pub returns-then-not-are_apart-clause-there : goal.returns-then-not-are_apart-clause-there
returns-then-not-are_apart-clause-there c extents is =
    let over = c.if-not-are_apart.ensures in
    let same = sym c.deref.ensures.value in
    let rising = subst (IsNonDecreasingBy (λ (r : Row). r.start)) same c.sorted-rows.ensures.rising in
    let moved = subst (λ (l : List Row). IsPermutation (taking_from 0 extents) (map row_view l)) same (c.sorted-rows.ensures.whole extents is) in
    (λ there. absurd (false≢true there), λ given. absurd (overlapping c.deref.result.now rising extents moved over.0 over.1 over.2 given))

-- those in a table are
pub returns-clause-there : goal.returns-clause-there
returns-clause-there c extents is =
    let rows = c.sorted-rows.result.items in
    let apart = subst (λ (l : List Row). AllAdjacentBelow (λ (r s : Row). past_of r ≤ s.start) l (length l)) c.deref.ensures.value c.if-not-are_apart.ensures in
    let all = disjoint rows c.sorted-rows.ensures.rising apart extents (c.sorted-rows.ensures.whole extents is) in
    (λ there. all, λ given. refl)

use Rattle.std.proofs.Common.{◌∷◌, sym, subst}
use Rattle.address_space.specs.Layers.{IsMerging, IsHidden, IsTaken}
use Rattle.address_space.proofs.Layering.{none_ahead, take_over, take_under, taken_uncovered}
use Rattle.address_space.proofs.layers.Merge.next.Goals as goal

pub returns-in-Some : goal.returns-in-Some
returns-in-Some c =
    let over = c.args.self.over.now in
    let under = c.args.self.under.now in
    let others = c.uncovered-under.result.now in
    let at = c.args.self.at in
    let row = c.in-Some.row in
    taken_uncovered over under others at row over others _ c.uncovered-under.ensures.same (take_under over others row at _ c.past-at.ensures.value (c.uncovered-under.ensures.merging over c.requires) c.in-Some.ensures.0 c.in-Some.ensures.1)

pub returns-in_err-row : goal.returns-in_err-row
returns-in_err-row c =
    let over = c.args.self.over.now in
    let others = c.uncovered-under.result.now in
    rw c.from_residual.ensures (none_ahead over c.args.self.under.now others c.args.self.at c.in_err-row.ensures.cases (c.uncovered-under.ensures.merging over c.requires) c.in_default.ensures c.uncovered-under.ensures.ends c.uncovered-under.ensures.same)

pub returns : goal.returns
returns c =
    let is = c.in_ok-row.ensures.cases.0 in
    let under = c.args.self.under.now in
    let others = c.uncovered-under.result.now in
    let at = c.args.self.at in
    let row = c.in_ok-row.row.now in
    let rest = c.in_ok-row.over.now in
    let merging = c.uncovered-under.ensures.merging c.args.self.over.now c.requires in
    subst (λ over. IsTaken over under at row rest others c.past-at-2.result) (sym is) (taken_uncovered (row ∷ rest) under others at row rest others _ c.uncovered-under.ensures.same (take_over rest others row at _ c.past-at-2.ensures.value (subst (λ over. IsMerging over others at) is merging) (subst (λ over. IsHidden over others at) is c.in_default.ensures)))

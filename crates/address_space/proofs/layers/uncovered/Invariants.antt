use Rattle.std.proofs.Common.{◌≡◌, ◌≤◌, ℕ, List, length}
use Rattle.address_space.specs.Layers.{holder, IsMerging}
use Rattle.address_space.specs.declared.row.Row.{Row}
use Rattle.address_space.proofs.layers.uncovered.Given as goal

-- those that went by have no address that is asked for
abbrev pub invariant-loop-row : goal.invariant-loop-row
invariant-loop-row l = record {
  same : (a : ℕ) → l.at ≤ a → holder l.ahead a ≡ holder l.rows a;
  merging : (over : List Row) → IsMerging over l.rows l.at → IsMerging over l.ahead l.at;
}

abbrev pub decreases-loop-row : goal.decreases-loop-row
decreases-loop-row l = length l.ahead

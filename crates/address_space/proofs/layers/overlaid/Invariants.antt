use Rattle.std.proofs.Common.{◌≡◌, ◌≤◌, ◌^◌, ◌-◌, ℕ}
use Rattle.address_space.specs.Layers.{IsMerging, either_holder}
use Rattle.address_space.proofs.Layering.{IsPut}
use Rattle.address_space.proofs.layers.overlaid.Given as goal

-- the rows are laid out as far as the address that is left
abbrev pub invariant-loop-row : goal.invariant-loop-row
invariant-loop-row l = record {
  merging : IsMerging l.ahead.over.now l.ahead.under.now l.ahead.at;
  put : IsPut (either_holder l.over l.under) l.rows.items l.ahead.at;
  same : (a : ℕ) → l.ahead.at ≤ a → either_holder l.ahead.over.now l.ahead.under.now a ≡ either_holder l.over l.under a;
}

abbrev pub decreases-loop-row : goal.decreases-loop-row
decreases-loop-row l = 2 ^ 64 - l.ahead.at

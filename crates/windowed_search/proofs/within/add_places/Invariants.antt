use Rattle.std.proofs.Common.{◌≡◌, ◌+◌, ◌-◌, ◌≤◌, ◌++◌, drop, length}
use Rattle.windowed_search.specs.Places.{places}
use Rattle.windowed_search.proofs.within.add_places.Given as goal

abbrev pub invariant-loop-place : goal.invariant-loop-place
invariant-loop-place l = record {
  within : l.at ≤ length l.bytes;
  found : l.found.items ++ places l.needle (l.first + l.at) (drop l.at l.bytes) ≡ l.fn.found.items ++ places l.needle l.first l.bytes;
}

abbrev pub decreases-loop-place : goal.decreases-loop-place
decreases-loop-place l = length l.bytes - l.at

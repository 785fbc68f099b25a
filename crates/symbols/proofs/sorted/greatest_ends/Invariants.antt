use Rattle.std.proofs.Common.{◌≡◌, ◌++◌, drop}
use Rattle.symbols.specs.Reach as reach
use Rattle.symbols.proofs.sorted.greatest_ends.Given as goal

-- the ends so far precede those that are left
abbrev pub invariant-loop-function : goal.invariant-loop-function
invariant-loop-function l =
    reach.greatest_ends 0 l.functions ≡ l.ends.items ++ reach.greatest_ends l.greatest (drop l.function-index l.functions)

use Rattle.std.proofs.Common.{◌≡◌, ◌++◌, take, drop}
use Rattle.crash_signatures.specs.Names.{before_addition, without_addition}
use Rattle.crash_signatures.proofs.names.without_addition.Given as goal

abbrev pub invariant-loop-at : goal.invariant-loop-at
invariant-loop-at l = without_addition l.name ≡ take l.at l.name ++ before_addition (drop l.at l.name)

use Rattle.std.proofs.Common.{◌≡◌, ◌++◌}
use Rattle.symbols.specs.Entry as entry
use Rattle.symbols.specs.FunctionWords.{functions_left}
use Rattle.symbols.proofs.sorted.collect.Given as goal

-- the functions are those that were taken and those that are left
abbrev pub invariant-loop-function : goal.invariant-loop-function
invariant-loop-function l = entry.functions_of l.entries ≡ l.all.items ++ functions_left l.functions

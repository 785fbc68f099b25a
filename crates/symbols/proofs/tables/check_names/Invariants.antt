use Rattle.std.proofs.Common.{◌≡◌}
use Rattle.symbols.specs.Entry as entry
use Rattle.symbols.specs.FunctionWords.{functions_left}
use Rattle.symbols.specs.SymbolTable as spec
use Rattle.symbols.proofs.tables.check_names.Given as goal

-- the fault of all is that of those that are left
abbrev pub invariant-loop-function : goal.invariant-loop-function
invariant-loop-function l =
    spec.name_fault l.strings (entry.functions_of l.entries) ≡ spec.name_fault l.strings (functions_left l.functions)

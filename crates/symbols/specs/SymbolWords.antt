-- The meaning of the code's symbols.
use Rattle.std.specs.Prelude.{ℕ, List, Option, None, Some, Result, Ok, Err}
use Rattle.symbols.specs.Entry.{functions_of}
use Rattle.symbols.specs.Names.{SymbolView}
use Rattle.symbols.specs.declared.faults.SymbolError.{SymbolError}
use Rattle.symbols.specs.declared.faults.SymbolError.TheVariants as errors
use Rattle.symbols.specs.declared.faults.SymbolFault.{SymbolFault}
use Rattle.symbols.specs.declared.functions.Function.{Function}
use Rattle.symbols.specs.declared.names.Symbol.{Symbol}
use Rattle.symbols.specs.declared.names.Symbols.{Symbols}

abbrev pub symbol_view : Symbol → SymbolView
symbol_view s = record { name = s.name.now; value = s.value; size = s.size }

-- the functions of the table, in its order
abbrev pub functions_in : Symbols → List Function
functions_in s = functions_of s.entries.now

-- the bytes of its string table
abbrev pub strings_in : Symbols → List ℕ
strings_in s = s.strings.now

-- the fault that is answered
abbrev pub fault_in : {A : Type 0} → Result A SymbolError → Option SymbolFault
fault_in (Ok a) = None
fault_in (Err (errors.Fault f)) = Some f
fault_in (Err errors.OutOfMemory) = None

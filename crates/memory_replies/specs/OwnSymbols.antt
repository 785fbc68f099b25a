-- The symbols of a file whose symbols have no fault.
use Rattle.std.specs.Prelude.{ℕ, if◌then◌else◌, List, Option, None, Some, is_none}
use Rattle.symbols.specs.Entry.{functions_of}
use Rattle.symbols.specs.SymbolTable.{entries_of, strings_of}
use Rattle.symbols.specs.declared.functions.Function.{Function}
use Rattle.memory_replies.specs.Symbol.{executable_fault}

-- its functions
abbrev pub own_functions : List ℕ → Option (List Function)
own_functions image = if is_none (executable_fault image) then Some (functions_of (entries_of image)) else None

-- and its string table
abbrev pub own_strings : List ℕ → Option (List ℕ)
own_strings image = if is_none (executable_fault image) then Some (strings_of image) else None

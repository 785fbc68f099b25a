-- The function that an address belongs to, with its name.
use Rattle.std.specs.Prelude.{ℕ, List, Option}
use Rattle.std.specs.Option.{option_map}
use Rattle.symbols.specs.Covering.{named}
use Rattle.symbols.specs.Entry.{functions_of}
use Rattle.symbols.specs.SymbolTable.{name_at, entries_of, strings_of}
use Rattle.symbols.specs.declared.functions.Function.{Function}

pub record SymbolView : Type 0 where
  pub name : List ℕ
  pub value : ℕ
  pub size : ℕ

-- a function with its name in a string table
abbrev pub shown : List ℕ → Function → SymbolView
shown strings f = record { name = name_at strings f.name; value = f.value; size = f.size }

abbrev pub symbol_named : List ℕ → List Function → ℕ → Option SymbolView
symbol_named strings fs v = option_map (shown strings) (named v fs)

-- the same of an image
abbrev pub symbol_in : List ℕ → ℕ → Option SymbolView
symbol_in b v = symbol_named (strings_of b) (functions_of (entries_of b)) v

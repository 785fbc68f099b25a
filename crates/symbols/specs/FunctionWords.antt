-- The meaning of the code's iterator over functions.
use Rattle.std.specs.Prelude.{◌-◌, List}
use Rattle.symbols.specs.Entry.{functions_between}
use Rattle.symbols.specs.declared.functions.Function.{Function}
use Rattle.symbols.specs.declared.functions.Functions.{Functions}

-- the functions that are still to come
abbrev pub functions_left : Functions → List Function
functions_left f = functions_between f.entries.now f.index (f.end - f.index)

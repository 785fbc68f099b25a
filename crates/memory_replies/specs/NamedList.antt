-- The meaning of the code's list of executables with symbols.
use Rattle.std.specs.Prelude.{List, map}
use Rattle.address_space.specs.Source.{ExecutableView}
use Rattle.memory_replies.specs.NamedWords.{named_view}
use Rattle.memory_replies.specs.declared.symbolized_executables.SymbolizedExecutables.{SymbolizedExecutables}

abbrev pub named_in : SymbolizedExecutables → List ExecutableView
named_in images = map named_view images.list.items

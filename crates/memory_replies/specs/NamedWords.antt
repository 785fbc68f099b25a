-- The meaning of the code's executables with symbols, and of its places.
use Rattle.address_space.specs.Source.{ExecutableView}
use Rattle.address_space.specs.SpaceWords.{attached_view}
use Rattle.memory_replies.specs.Places.{PlaceView}
use Rattle.memory_replies.specs.declared.symbolized_executable.SymbolizedExecutable.{SymbolizedExecutable}
use Rattle.memory_replies.specs.declared.named.Location.{Location}

abbrev pub named_view : SymbolizedExecutable → ExecutableView
named_view x = attached_view x.executable

abbrev pub place_view : Location → PlaceView
place_view p = record { name = p.name.now; distance = p.distance }

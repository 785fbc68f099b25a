-- The meaning of the code's executables with their debug files.
use Rattle.std.specs.Option.{option_map}
use Rattle.address_space.specs.Source.{ExecutableView}
use Rattle.address_space.specs.SpaceWords.{attached_view}
use Rattle.memory_replies.specs.Naming.{NamedFile}
use Rattle.memory_replies.specs.declared.debug_file.DebugFile.{DebugFile}
use Rattle.memory_replies.specs.declared.named_executable.NamedExecutable.{NamedExecutable}

abbrev pub debug_view : DebugFile → ExecutableView
debug_view d = attached_view d.file

abbrev pub named_file : NamedExecutable → NamedFile
named_file n = record { file = attached_view n.executable; debug = option_map debug_view n.debug }

-- What the code's executables mean.
use Rattle.std.specs.Prelude.{if◌then◌else◌, List, map, Option, None, Some, Vec}
use Rattle.std.specs.Global.{Global}
use Rattle.std.specs.Option.{option_map}
use Rattle.elf_view.specs.ViewWords.{image_of}
use Rattle.address_space.specs.Source.{ExecutableView}
use Rattle.memory_replies.specs.Memory.{is_attached}
use Rattle.memory_replies.specs.Naming.{NamedFile}
use Rattle.memory_replies.specs.NamingWords.{named_file}
use Rattle.memory_replies.specs.declared.named_executable.NamedExecutable.{NamedExecutable}
use Rattle.unwind.specs.Code.{CodeFile}
use Rattle.frame_replies.specs.Processes.{with_code}
use Rattle.frame_replies.specs.declared.described.Described.{Described}

abbrev pub described_view : Described → CodeFile
described_view x = record { file = record { path = x.path.now; image = image_of x.elf }; debug = option_map image_of x.debug }

-- an executable with the debug file of its path, where it is attached
abbrev pub if_attached : List ExecutableView → ExecutableView → Option CodeFile
if_attached debugs x = if is_attached x then Some (with_code debugs x) else None

-- the executables that name frames
abbrev pub named_in : Vec NamedExecutable Global → List NamedFile
named_in images = map named_file images.items

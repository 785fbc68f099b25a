-- The meaning of the code's executables, processes and places.
use Rattle.std.specs.Prelude.{ℕ, List, map, Option, Result, Ok, Err}
use Rattle.std.specs.Option.{option_map}
use Rattle.elf_view.specs.ViewWords.{image_of}
use Rattle.address_space.specs.Source.{Space}
use Rattle.address_space.specs.SpaceWords.{attached_view, space_of}
use Rattle.address_space.specs.declared.attached.Attached.{Attached}
use Rattle.unwind.specs.Code.{CodeFile, ProcessView, CodeView}
use Rattle.unwind.specs.declared.code.Code.{Code}
use Rattle.unwind.specs.declared.executable.UnwoundExecutable.{UnwoundExecutable}
use Rattle.unwind.specs.declared.code.Process.{Process}
use Rattle.unwind.specs.declared.faults.Stop.{Stop}

abbrev pub executable_view : UnwoundExecutable → CodeFile
executable_view x = record { file = record { path = x.path.now; image = image_of x.elf }; debug = option_map image_of x.debug }

-- the process of a memory, with these executables, and these of another build, and the address at which the program begins
abbrev pub process_with : Space → List UnwoundExecutable → List Attached → Option ℕ → ProcessView
process_with space executables others start = record {
  space = space;
  executables = map executable_view executables;
  others = map attached_view others;
  start = start;
}

-- the process by the first bytes of its core's image
abbrev pub process_view : Process → ProcessView
process_view p = process_with (space_of p.memory.space.now) p.executables.now p.others.now p.start

abbrev pub code_view : Code → CodeView
code_view c = record { image = image_of c.executable.elf; debug = option_map image_of c.executable.debug; address = c.address }

-- a result of the code as one of the definitions
abbrev pub viewed : {A B : Type 0} → (A → B) → Result A Stop → Result B Stop
viewed view (Ok x) = Ok (view x)
viewed view (Err stop) = Err stop

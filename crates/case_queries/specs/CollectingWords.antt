-- The meaning of the executables that code gathers.
use Rattle.std.specs.Prelude.{◌++◌, List, map, Result, Ok, Err, Vec}
use Rattle.std.specs.Global.{Global}
use Rattle.address_space.specs.Source.{ExecutableView}
use Rattle.intake.specs.declared.faults.ArchiveFault.{ArchiveFault}
use Rattle.case_queries.specs.Collecting.{Wanted}
use Rattle.case_queries.specs.declared.collect_executables.StoredExecutable.{StoredExecutable}
use Rattle.case_queries.specs.declared.collect_executables.WantedCase.{WantedCase}

abbrev pub wanted_view : WantedCase → Wanted
wanted_view w = (w.seq, w.path.items)

-- the number and the name under which an executable was read
abbrev pub read_as : StoredExecutable → Wanted
read_as x = (x.seq, x.path.items)

abbrev pub executable_view : StoredExecutable → ExecutableView
executable_view x = record { path = x.path.items; image = x.image.items }

abbrev pub collected_view : Result (Vec StoredExecutable Global) ArchiveFault → Result (List ExecutableView) ArchiveFault
collected_view (Ok v) = Ok (map executable_view v.items)
collected_view (Err f) = Err f

-- these, and those after them
abbrev pub joined : List ExecutableView → Result (List ExecutableView) ArchiveFault → Result (List ExecutableView) ArchiveFault
joined front (Ok others) = Ok (front ++ others)
joined front (Err f) = Err f

use Rattle.std.proofs.Common.{take}
use Rattle.std.specs.List.{flat_map, zip}
use Rattle.script_streams.specs.Printing.{Prints, sink}
use Rattle.case_unpacking.specs.Told.{place_line}
use Rattle.case_unpacking.proofs.printing.print_places.Given as goal

-- the lines of those that went by are told
abbrev pub invariant-loop-at : goal.invariant-loop-at
invariant-loop-at g l =
    Prints (sink g.O.Output l.initial.reply) (sink g.O.Output l.reply) (flat_map place_line (zip (take l.at l.named) (take l.at l.places)))

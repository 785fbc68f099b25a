use Rattle.std.proofs.Common.{◌≡◌, ℕ, ◌≤◌, List, ◌++◌, drop, take}
use Rattle.script_streams.specs.Printing.{Prints, sink}
use Rattle.case_unpacking.specs.GdbCommands.{more_folders}
use Rattle.case_unpacking.proofs.gdb_commands.print_more.Given as goal

-- the folders told, and those of the places that are left
abbrev pub invariant-loop-at : goal.invariant-loop-at
invariant-loop-at g l =
    (told : List ℕ) × Prints (sink g.O.Output l.initial.reply) (sink g.O.Output l.reply) told
    × (told ++ more_folders l.separator (take l.at l.places) (drop l.at l.places) ≡ more_folders l.separator (take 1 l.places) (drop 1 l.places))

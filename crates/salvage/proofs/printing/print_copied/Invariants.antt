-- A line of each case so far.
use Rattle.std.proofs.Common.{take, map}
use Rattle.journal_layout.specs.Case.{case_of}
use Rattle.salvage.specs.Told.{AreCopied, PrintsLines}
use Rattle.script_streams.specs.Printing.{sink}
use Rattle.salvage.proofs.printing.print_copied.Given as goal

abbrev pub invariant-loop-entry : goal.invariant-loop-entry
invariant-loop-entry g l =
    PrintsLines (record { before = sink g.O.Output l.initial.reply; after = sink g.O.Output l.reply }) (AreCopied l.found (map case_of (take l.entry-index l.entry-items)))

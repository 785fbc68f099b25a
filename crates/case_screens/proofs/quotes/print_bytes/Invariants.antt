use Rattle.std.proofs.Common.{take}
use Rattle.std.specs.List.{flat_map}
use Rattle.script_streams.specs.Printing.{sink, Prints}
use Rattle.case_screens.specs.Quotes.{quoted_shown}
use Rattle.case_screens.proofs.quotes.print_bytes.Given as goal

abbrev pub invariant-loop-byte : goal.invariant-loop-byte
invariant-loop-byte g l = Prints (sink g.O.Output l.initial.reply) (sink g.O.Output l.reply) (flat_map quoted_shown (take l.byte-index l.name))

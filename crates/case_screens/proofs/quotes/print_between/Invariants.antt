use Rattle.std.proofs.Common.{take}
use Rattle.script_streams.specs.Printing.{sink, Prints}
use Rattle.case_screens.specs.Quotes.{between_quotes}
use Rattle.case_screens.proofs.quotes.print_between.Given as goal

abbrev pub invariant-loop-byte : goal.invariant-loop-byte
invariant-loop-byte g l = Prints (sink g.O.Output l.initial.reply) (sink g.O.Output l.reply) (between_quotes (take l.byte-index l.word))

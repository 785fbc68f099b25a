use Rattle.std.proofs.Common.{take}
use Rattle.std.specs.List.{flat_map}
use Rattle.script_streams.specs.Printing.{sink, Prints}
use Rattle.case_screens.specs.Texts.{plain_byte}
use Rattle.case_screens.proofs.texts.print_plain_bytes.Given as goal

abbrev pub invariant-loop-byte : goal.invariant-loop-byte
invariant-loop-byte g l = Prints (sink g.O.Output l.initial.reply) (sink g.O.Output l.reply) (flat_map plain_byte (take l.byte-index l.text))

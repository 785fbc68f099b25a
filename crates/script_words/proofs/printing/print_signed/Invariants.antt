use Rattle.std.proofs.Common.{◌≡◌, take}
use Rattle.script_words.proofs.printing.print_signed.Given as goal

abbrev pub invariant-loop-byte : goal.invariant-loop-byte
invariant-loop-byte l = l.text.items ≡ take l.byte-index l.byte-items

use Rattle.std.proofs.Common.{◌≡◌, ◌++◌, take}
use Rattle.std.specs.List.{flat_map}
use Rattle.script_words.specs.Printing.{shown_byte}
use Rattle.command_words.proofs.raw_words.push_spelled.Given as goal

abbrev pub invariant-loop-byte : goal.invariant-loop-byte
invariant-loop-byte l = l.line.items ≡ l.fn.line.items ++ flat_map shown_byte (take l.byte-index l.bytes)

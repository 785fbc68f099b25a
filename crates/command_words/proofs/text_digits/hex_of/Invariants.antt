use Rattle.std.proofs.Common.{◌≡◌, string_bytes, take}
use Rattle.script_words.specs.Hex.{hex_of}
use Rattle.command_words.proofs.text_digits.hex_of.Given as goal

abbrev pub invariant-loop-byte : goal.invariant-loop-byte
invariant-loop-byte l = string_bytes l.digits ≡ hex_of (take l.byte-index l.bytes)

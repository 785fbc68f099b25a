use Rattle.std.proofs.Common.{◌≡◌, ◌*◌, length, take}
use Rattle.script_words.specs.Hex.{hex_of}
use Rattle.script_words.proofs.printing.print_hex_row.Given as goal

abbrev pub invariant-loop-byte : goal.invariant-loop-byte
invariant-loop-byte l = record {
  long : length l.digits.items ≡ 2 * l.byte-index;
  digits : l.digits.items ≡ hex_of (take l.byte-index l.bytes);
}

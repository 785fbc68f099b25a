use Rattle.std.proofs.Common.{◌≡◌, ◌+◌, ◌*◌, ◌++◌, length, take}
use Rattle.script_words.specs.Hex.{hex_of}
use Rattle.build_ids.proofs.build_names.push_digits.Given as goal

-- the digits of the bytes that went by are appended
abbrev pub invariant-loop-byte : goal.invariant-loop-byte
invariant-loop-byte l = record {
  long : length l.name.items ≡ length l.fn.name.items + 2 * l.byte-index;
  digits : l.name.items ≡ l.fn.name.items ++ hex_of (take l.byte-index l.bytes);
}

use Rattle.std.proofs.Common.{◌≡◌, ◌≤◌, length, take, ◌*◌}
use Rattle.std.specs.List.{flat_map}
use Rattle.script_words.specs.Printing.{shown_byte}
use Rattle.case_tables.proofs.texts.bytes_length.Given as goal

abbrev pub invariant-loop-byte : goal.invariant-loop-byte
invariant-loop-byte l = (l.total ≡ length (flat_map shown_byte (take l.byte-index l.text))) × (l.total ≤ 4 * l.byte-index)

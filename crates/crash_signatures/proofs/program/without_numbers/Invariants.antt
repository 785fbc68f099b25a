use Rattle.std.proofs.Common.{◌≡◌, ◌≤◌, ◌++◌, drop, false}
use Rattle.arrayvec.specs.ArrayVec.{array_vec_len}
use Rattle.crash_signatures.specs.Program.{without_numbers}
use Rattle.crash_signatures.proofs.program.without_numbers.Given as goal

abbrev pub invariant-loop-byte : goal.invariant-loop-byte
invariant-loop-byte l = record {
  value : without_numbers false l.name ≡ l.text.items ++ without_numbers l.is_behind (drop l.byte-index l.name);
  room : array_vec_len l.text ≤ l.byte-index;
}

use Rattle.std.proofs.Common.{◌≡◌, ◌+◌, ◌*◌, ◌≤◌, ◌++◌, take, vec_len, vec_capacity}
use Rattle.std.specs.List.{flat_map}
use Rattle.journal_layout.specs.Record.{run_bytes}
use Rattle.journal_records.proofs.spelling.put_runs.Given as goal

abbrev pub invariant-loop-run : goal.invariant-loop-run
invariant-loop-run l = record {
  items : l.bytes.items ≡ l.initial.bytes.items ++ flat_map run_bytes (take l.run-index l.runs);
  len : vec_len l.bytes ≡ vec_len l.initial.bytes + 8 * l.run-index;
  capacity : vec_capacity l.initial.bytes ≤ vec_capacity l.bytes;
}

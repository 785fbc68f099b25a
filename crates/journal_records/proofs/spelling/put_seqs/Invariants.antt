use Rattle.std.proofs.Common.{◌≡◌, ◌+◌, ◌*◌, ◌≤◌, ◌++◌, take, vec_len, vec_capacity}
use Rattle.std.specs.List.{flat_map}
use Rattle.journal_layout.specs.Record.{seq_bytes}
use Rattle.journal_records.proofs.spelling.put_seqs.Given as goal

abbrev pub invariant-loop-seq : goal.invariant-loop-seq
invariant-loop-seq l = record {
  items : l.bytes.items ≡ l.initial.bytes.items ++ flat_map seq_bytes (take l.seq-index l.seqs);
  len : vec_len l.bytes ≡ vec_len l.initial.bytes + 4 * l.seq-index;
  capacity : vec_capacity l.initial.bytes ≤ vec_capacity l.bytes;
}

use Rattle.std.proofs.Common.{◌≡◌, ◌+◌, ◌<◌, ◌≤◌, ℕ, length, slice_index}
use Rattle.shared_disk.specs.History.{moment}
use Rattle.shared_disk.specs.Rows.{rows}
use Rattle.shared_disk.proofs.scripted.ScriptedDiskWatchedDisk.read_at.Given as goal

abbrev pub invariant-loop-k : goal.invariant-loop-k
invariant-loop-k l = record {
  gives : (n : ℕ) → n < l.k → (m : ℕ) × (l.initial.self.reached ≤ m) × (m ≤ l.self.reached)
      × (slice_index l.into n ≡ slice_index (moment (rows l.initial.self.count l.initial.self.size l.initial.self.bytes.items) m) (l.at + n));
  bytes : l.self.bytes ≡ l.initial.self.bytes;
  size : l.self.size ≡ l.initial.self.size;
  count : l.self.count ≡ l.initial.self.count;
  later : l.initial.self.reached ≤ l.self.reached;
  long : length l.into ≡ length l.initial.into;
}

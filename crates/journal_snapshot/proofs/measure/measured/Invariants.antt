use Rattle.std.proofs.Common.{◌≡◌, ◌+◌, ◌≤◌, ℕ, length, take}
use Rattle.journal_snapshot.specs.Writing.{written_entries, AreAtMost}
use Rattle.journal_snapshot.proofs.measure.measured.Given as goal

abbrev pub invariant-loop-entry : goal.invariant-loop-entry
invariant-loop-entry l = record {
  used : l.sum.used ≡ 48 + length (written_entries l.change (take l.entry-index l.entries));
  in_half : l.sum.used + 1 ≤ l.half;
  most : AreAtMost l.sum.largest l.change (take l.entry-index l.entries);
  least : (n : ℕ) → AreAtMost n l.change (take l.entry-index l.entries) → l.sum.largest ≤ n;
  within : l.sum.largest + 48 ≤ l.sum.used;
}

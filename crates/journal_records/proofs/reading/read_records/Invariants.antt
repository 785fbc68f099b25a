use Rattle.std.proofs.Common.{◌≡◌, ◌+◌, ◌-◌, ◌<◌, ◌≤◌, length, IfSome}
use Rattle.journal_records.specs.Kept.{said_by, AreKept}
use Rattle.journal_records.specs.Said.{IsAlong}
use Rattle.journal_records.proofs.reading.read_records.Given as goal

abbrev pub invariant-loop-size : goal.invariant-loop-size
invariant-loop-size l = record {
  along : IsAlong (length l.initial.cases.free) l.initial.cases.version l.bytes (said_by l.cases) l.last l.size;
  low : IfSome l.last (λ n. n < l.size);
  version : l.cases.version ≡ l.initial.cases.version;
  kept : AreKept l.cases;
  in_half : l.size + 1 ≤ length l.bytes;
  free : length l.cases.free ≡ length l.initial.cases.free;
}

abbrev pub decreases-loop-size : goal.decreases-loop-size
decreases-loop-size l = length l.bytes - l.size

use Rattle.std.proofs.Common.{◌≡◌, ◌+◌, ◌-◌, ◌*◌, drop, length}
use Rattle.journal_layout.specs.Reading.{seqs_at, drop_seqs}
use Rattle.journal_layout.specs.Folding.{dropped}
use Rattle.journal_records.specs.Live.{cases_of}
use Rattle.journal_records.specs.Kept.{AreKept}
use Rattle.journal_records.proofs.cases.Cases.drop_cases.Given as goal

abbrev pub invariant-loop-index : goal.invariant-loop-index
invariant-loop-index l = record {
  kept : AreKept l.self;
  left : dropped (seqs_at (drop (12 + 4 * l.index) l.rest) (l.index-end - l.index)) (cases_of l.self.live.entries) ≡ dropped (drop_seqs l.rest) (cases_of l.initial.self.live.entries);
  next : l.self.next ≡ l.initial.self.next;
  version : l.self.version ≡ l.initial.self.version;
  size : length l.self.free ≡ length l.initial.self.free;
}

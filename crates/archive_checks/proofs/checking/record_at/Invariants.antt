use Rattle.std.proofs.Common.{◌+◌, ◌≤◌}
use Rattle.case_journal.specs.Viewing.{OnlyReads}
use Rattle.archive_checks.proofs.checking.record_at.Given as goal

abbrev pub invariant-loop : goal.invariant-loop
invariant-loop g l = record {
  quiet : OnlyReads g.D.Disk l.initial.disk l.disk;
  low : l.place ≤ l.at;
  few : l.number ≤ l.counter + 1;
}

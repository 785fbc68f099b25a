use Rattle.std.proofs.Common.{◌≡◌, IsTrue}
use Rattle.case_journal.specs.Settling.{WritesAgain}
use Rattle.case_journal.proofs.settling.write_each_again.Given as goal

abbrev pub invariant-loop-place : goal.invariant-loop-place
invariant-loop-place g l = record {
  again : WritesAgain g.D.Disk l.places l.initial.disk l.disk;
  seen : IsTrue (g.D.Disk.is_honest l.initial.disk) → g.D.Disk.seen l.disk ≡ g.D.Disk.seen l.initial.disk;
  uncounted : g.D.Disk.failures l.disk ≡ g.D.Disk.failures l.initial.disk;
}

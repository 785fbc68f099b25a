use Rattle.std.proofs.Common.{◌≡◌, ◌≤◌, take, Ok}
use Rattle.std.specs.Vec.{vec_capacity}
use Rattle.journal_snapshot.specs.Writing.{Writes, written_entries}
use Rattle.journal_snapshot.proofs.cases.write_entries.Given as goal

abbrev pub invariant-loop-entry : goal.invariant-loop-entry
invariant-loop-entry g l = record {
  writes : Writes g.D.Disk l.initial.disk l.disk l.initial.start (written_entries l.change (take l.entry-index l.entries)) (Ok l.at);
  kept : vec_capacity l.initial.buffer ≤ vec_capacity l.buffer;
  uncounted : g.D.Disk.failures l.disk ≡ g.D.Disk.failures l.initial.disk;
}

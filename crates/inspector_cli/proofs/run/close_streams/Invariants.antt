use Rattle.std.proofs.Common.{◌≡◌, ◌<◌, ◌≤◌, length}
use Rattle.intake.specs.Calls.{ChangesNoCase}
use Rattle.intake.specs.Parts.{state_of}
use Rattle.inspector_cli.proofs.CloseLemmas.{ClosesBelow}
use Rattle.inspector_cli.proofs.run.close_streams.Given as goal

abbrev pub invariant-loop-slot : goal.invariant-loop-slot
invariant-loop-slot g l = record {
  closed : ClosesBelow l.slot (state_of l.initial.archive) (state_of l.archive);
  stays : ChangesNoCase g.D.Disk l.initial.archive l.archive;
  same : l.archive.disk ≡ l.initial.archive.disk;
  few : 0 < l.slot → length (state_of l.archive).streams ≤ 8;
}

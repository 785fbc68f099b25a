use Rattle.std.proofs.Common.{◌≡◌, false}
use Rattle.case_journal.specs.Viewing.{OnlyReads}
use Rattle.intake.specs.Parts.{state_of}
use Rattle.script_streams.specs.Printing.{sink}
use Rattle.archive_checks.proofs.CheckLemmas.{ImagesSoFar}
use Rattle.archive_checks.proofs.checking.print_images.Given as goal

abbrev pub invariant-loop-place : goal.invariant-loop-place
invariant-loop-place g l = record {
  quiet : OnlyReads g.D.Disk l.initial.archive.disk l.archive.disk;
  runs : l.archive.stopped ≡ false;
  state : state_of l.archive ≡ state_of l.initial.archive;
  told : ImagesSoFar g.D.Disk l.initial.archive l.archive (state_of l.initial.archive).cases l.place (sink g.O.Output l.initial.reply) (sink g.O.Output l.reply);
}

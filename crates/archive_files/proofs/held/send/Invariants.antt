use Rattle.std.proofs.Common.{◌≡◌, ◌≤◌, ◌-◌, length, take}
use Rattle.std.specs.Io.KnownBytes.{Appends}
use Rattle.archive_files.proofs.held.send.Given as goal

abbrev pub invariant-loop-sent : goal.invariant-loop-sent
invariant-loop-sent g l = record {
  within : l.sent ≤ length l.text;
  taken : Appends (g.O.Output.taken l.initial.output) (g.O.Output.taken l.output) (take l.sent l.text);
  failures : g.O.Output.failures l.output ≡ g.O.Output.failures l.initial.output;
}

abbrev pub decreases-loop-sent : goal.decreases-loop-sent
decreases-loop-sent g l = length l.text - l.sent

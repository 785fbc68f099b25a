use Rattle.std.proofs.Common.{◌≡◌, ◌++◌, List, ℕ, length}
use Rattle.std.specs.Io.KnownBytes.{Appends}
use Rattle.script_streams.proofs.reply.write_whole.Given as goal

abbrev pub invariant-loop-rest : goal.invariant-loop-rest
invariant-loop-rest g l = record {
  out : List ℕ;
  split : out ++ l.rest ≡ l.text;
  appended : Appends (g.O.Output.taken l.initial.output) (g.O.Output.taken l.output) out;
  failures : g.O.Output.failures l.output ≡ g.O.Output.failures l.initial.output;
}

abbrev pub decreases-loop-rest : goal.decreases-loop-rest
decreases-loop-rest g l = length l.rest

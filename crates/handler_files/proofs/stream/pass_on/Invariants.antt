use Rattle.std.proofs.Common.{◌≡◌, ◌≤◌, ◌-◌, ℕ, List, [], Some}
use Rattle.handler_files.specs.Stream.{PassesOn}
use Rattle.handler_files.proofs.stream.pass_on.Given as goal

abbrev pub invariant-loop-bytes : goal.invariant-loop-bytes
invariant-loop-bytes g l = record {
  within : l.bytes ≤ l.most;
  empty : l.piece ≡ [];
  passes : (xs : List ℕ) → g.I.Read.remaining l.initial.input ≡ Some xs
      → PassesOn xs l.bytes (g.W.Write.contents l.initial.writer) (g.W.Write.contents l.writer) [] (g.I.Read.remaining l.input);
}

abbrev pub decreases-loop-bytes : goal.decreases-loop-bytes
decreases-loop-bytes g l = l.most - l.bytes

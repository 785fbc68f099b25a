-- The bound stays, and what the reads say that lie in the place is known where what those that are left say is.
use Rattle.std.proofs.Common.{◌≡◌, drop}
use Rattle.salvage.specs.Contests.{AreKnown, StayKnown}
use Rattle.salvage.specs.declared.doubts.Doubts.{Doubts}
use Rattle.salvage.proofs.doubts.Doubts.of.Given as goal

abbrev pub invariant-loop-read : goal.invariant-loop-read
invariant-loop-read l = record {
  bound : l.doubts.bound ≡ l.fn.bound;
  known : (last : Doubts) → StayKnown l.doubts last → AreKnown last l.fn.behind (drop l.read-index l.reads) → AreKnown last l.fn.behind l.reads;
}

use Rattle.std.proofs.Common.{◌≤◌, ◌-◌, length}
use Rattle.seen_memory.specs.Gathering.{StaysPart}
use Rattle.seen_memory.proofs.gathered.gather.Given as goal

-- so much is gathered
abbrev pub invariant-loop-bytes : goal.invariant-loop-bytes
invariant-loop-bytes l = record {
  few : length l.bytes.items ≤ l.count;
  stays : StaysPart l.front l.parts l.start l.initial.bytes.items l.bytes.items;
}

abbrev pub decreases-loop-bytes : goal.decreases-loop-bytes
decreases-loop-bytes l = l.count - length l.bytes.items

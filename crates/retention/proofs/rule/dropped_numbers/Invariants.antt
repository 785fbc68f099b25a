use Rattle.std.proofs.Common.{◌≡◌, ◌++◌, map, drop}
use Rattle.retention.specs.Rule.{goes, seq_of}
use Rattle.retention.proofs.rule.dropped_numbers.Given as goal

-- the numbers so far, and those of what is left, are all of them
abbrev pub invariant-loop-case : goal.invariant-loop-case
invariant-loop-case l = l.dropped.items ++ map seq_of (goes l.policy l.left (drop l.case-index l.cases)) ≡ map seq_of (goes l.policy l.count l.cases)

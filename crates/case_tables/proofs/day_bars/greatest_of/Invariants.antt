use Rattle.std.proofs.Common.{◌≡◌, max, drop}
use Rattle.case_tables.specs.Table.{greatest}
use Rattle.case_tables.proofs.day_bars.greatest_of.Given as goal

-- the greatest so far, and those that are left
abbrev pub invariant-loop-count : goal.invariant-loop-count
invariant-loop-count l = max l.greatest (greatest (drop l.count-index l.counts)) ≡ greatest l.counts

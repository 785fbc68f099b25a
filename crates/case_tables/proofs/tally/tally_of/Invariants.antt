use Rattle.std.proofs.Common.{◌≡◌, ◌≤◌, map, drop}
use Rattle.journal_layout.specs.Case.{case_of}
use Rattle.case_tables.specs.Tally.{tally_after, tally_of}
use Rattle.case_tables.proofs.tally.tally_of.Given as goal

-- the cases that are left give, after those so far, what all give; no count is over the cases so far
abbrev pub invariant-loop-case : goal.invariant-loop-case
invariant-loop-case l = record {
  same : tally_after l.tally (map case_of (drop l.case-index l.cases)) ≡ tally_of (map case_of l.cases);
  cores : l.tally.cores ≤ l.case-index;
  executables : l.tally.executables ≤ l.case-index;
  pinned : l.tally.pinned ≤ l.case-index;
}

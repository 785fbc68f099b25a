use Rattle.std.proofs.Common.{◌≡◌, ◌≤◌, take, map}
use Rattle.journal_layout.specs.Case.{case_of}
use Rattle.case_tables.specs.DayBars.{count_before}
use Rattle.case_tables.proofs.day_bars.count_before.Given as goal

-- those that went by are counted
abbrev pub invariant-loop-case : goal.invariant-loop-case
invariant-loop-case l = record {
  counted : l.count ≡ count_before l.day l.back (map case_of (take l.case-index l.cases));
  few : l.count ≤ l.case-index;
}

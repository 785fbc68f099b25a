use Rattle.std.proofs.Common.{◌≡◌, ◌≤◌, length, map, take}
use Rattle.journal_layout.specs.Case.{case_of}
use Rattle.journal_layout.specs.Folding.{used_blocks}
use Rattle.archive_care.specs.Placing.{placed}
use Rattle.archive_care.proofs.placing.placed.Given as goal

-- the first cases have their places
abbrev pub invariant-loop-entry : goal.invariant-loop-entry
invariant-loop-entry l = record {
  cases : map case_of l.placed.items ≡ placed 0 (map case_of (take l.entry-index l.entries));
  start : l.start ≡ length (used_blocks (map case_of (take l.entry-index l.entries)));
  room : l.start ≤ l.data_blocks;
}

-- All are had where those that are left are.
use Rattle.std.proofs.Common.{drop, map}
use Rattle.journal_layout.specs.Case.{case_of}
use Rattle.salvage.specs.Records.{HasEachBut}
use Rattle.salvage.proofs.records.Scan.has_each.Given as goal

abbrev pub invariant-loop-entry : goal.invariant-loop-entry
invariant-loop-entry l =
    HasEachBut l.self.drops.items l.journal.standing.cases (map case_of (drop l.entry-index l.entry-items))
    → HasEachBut l.self.drops.items l.journal.standing.cases l.first.standing.cases

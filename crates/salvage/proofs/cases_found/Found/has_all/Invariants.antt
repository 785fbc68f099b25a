-- All are copied where those that are left are.
use Rattle.std.proofs.Common.{drop}
use Rattle.salvage.specs.Told.{HasAll, copied_cases}
use Rattle.salvage.proofs.cases_found.Found.has_all.Given as goal

abbrev pub invariant-loop-read : goal.invariant-loop-read
invariant-loop-read l = HasAll (copied_cases l.self) (drop l.read-index l.reads) → HasAll (copied_cases l.self) l.reads

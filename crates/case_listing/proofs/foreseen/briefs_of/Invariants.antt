use Rattle.std.proofs.Common.{◌≡◌, map, take}
use Rattle.intake.specs.Retiring.{brief_of_entry}
use Rattle.case_listing.proofs.foreseen.briefs_of.Given as goal

abbrev pub invariant-loop-entry : goal.invariant-loop-entry
invariant-loop-entry l = l.briefs.items ≡ map brief_of_entry (take l.entry-index l.cases)

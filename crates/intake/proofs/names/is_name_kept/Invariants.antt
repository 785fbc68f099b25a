use Rattle.std.proofs.Common.{◌≡◌, map, take}
use Rattle.journal_layout.specs.Case.{case_of}
use Rattle.intake.specs.Retiring.{stays_named}
use Rattle.intake.proofs.names.is_name_kept.Given as goal

abbrev pub invariant-loop-entry : goal.invariant-loop-entry
invariant-loop-entry l = l.is_kept ≡ stays_named l.name.items l.seqs (take l.entry-index (map case_of l.entries))

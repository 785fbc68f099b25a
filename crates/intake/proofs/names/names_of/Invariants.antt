use Rattle.std.proofs.Common.{◌≡◌, map, take}
use Rattle.journal_layout.specs.Case.{case_of}
use Rattle.intake.specs.Names.{items_of, names_gone}
use Rattle.intake.proofs.names.names_of.Given as goal

abbrev pub invariant-loop-entry : goal.invariant-loop-entry
invariant-loop-entry l = map items_of l.names.items ≡ names_gone l.seqs (take l.entry-index (map case_of l.entries))

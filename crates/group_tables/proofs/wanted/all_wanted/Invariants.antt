use Rattle.std.proofs.Common.{◌≡◌, take, map}
use Rattle.journal_layout.specs.Case.{case_of}
use Rattle.group_tables.specs.Chosen.{all_wanted}
use Rattle.group_tables.proofs.wanted.all_wanted.Given as goal

abbrev pub invariant-loop-case : goal.invariant-loop-case
invariant-loop-case l = l.numbers.items ≡ all_wanted l.wanted (map case_of (take l.case-index l.cases))

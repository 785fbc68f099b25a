use Rattle.std.proofs.Common.{◌≡◌, take, map}
use Rattle.build_replies.specs.NameWords.{names_in}
use Rattle.journal_layout.specs.Case.{case_of}
use Rattle.case_queries.specs.Collecting.{named_by}
use Rattle.case_queries.specs.CollectingWords.{wanted_view}
use Rattle.case_queries.proofs.collect_executables.named_among.Given as goal

-- those that went by and are wanted
abbrev pub invariant-loop-entry : goal.invariant-loop-entry
invariant-loop-entry l = map wanted_view l.wanted.items ≡ named_by (names_in l.names) (map case_of (take l.entry-index l.entries))

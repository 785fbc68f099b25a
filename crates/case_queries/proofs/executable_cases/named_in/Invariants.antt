use Rattle.std.proofs.Common.{◌≡◌, take, map}
use Rattle.build_replies.specs.NameWords.{names_in}
use Rattle.case_queries.specs.CollectingWords.{wanted_view}
use Rattle.case_queries.specs.Executables.{named_of}
use Rattle.case_queries.proofs.executable_cases.named_in.Given as goal

-- those that went by and have one of the names
abbrev pub invariant-loop-case : goal.invariant-loop-case
invariant-loop-case l = map wanted_view l.wanted.items ≡ named_of (names_in l.names) (map wanted_view (take l.case-index l.cases))

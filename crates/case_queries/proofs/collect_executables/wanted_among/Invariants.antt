use Rattle.std.proofs.Common.{◌≡◌, take, map}
use Rattle.image_replies.specs.CoreWords.{core_bytes}
use Rattle.journal_layout.specs.Case.{case_of}
use Rattle.case_queries.specs.Collecting.{wanted_of}
use Rattle.case_queries.specs.CollectingWords.{wanted_view}
use Rattle.case_queries.proofs.collect_executables.wanted_among.Given as goal

-- those that went by and are wanted
abbrev pub invariant-loop-entry : goal.invariant-loop-entry
invariant-loop-entry l = map wanted_view l.wanted.items ≡ wanted_of (core_bytes l.core) (map case_of (take l.entry-index l.entries))

use Rattle.std.proofs.Common.{◌≡◌, List, length, map, take}
use Rattle.case_info.specs.Gathering.{FileValue, listed_view}
use Rattle.case_info.specs.Planning.{AreSeenAs, lent_view, mapped_of}
use Rattle.case_info.proofs.plan.live_cases.Given as goal

-- those that went by are seen
abbrev pub invariant-loop-i : goal.invariant-loop-i
invariant-loop-i l = (files : List (List FileValue)) → length files ≡ length l.cases → map lent_view l.lent ≡ map (map mapped_of) files
    → AreSeenAs (map listed_view (take l.i l.cases)) (take l.i files) l.live.items

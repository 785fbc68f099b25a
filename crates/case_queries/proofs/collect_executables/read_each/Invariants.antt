use Rattle.std.proofs.Common.{◌≡◌, drop, map, take}
use Rattle.case_queries.specs.CollectingWords.{executable_view, read_as, wanted_view}
use Rattle.case_queries.proofs.CollectLemmas.{GoesOn}
use Rattle.case_queries.proofs.collect_executables.read_each.Given as goal

-- what comes of those that are left is what comes of all, behind those that are read
abbrev pub invariant-loop-case : goal.invariant-loop-case
invariant-loop-case g l = record {
  goes : GoesOn g.D.Disk l.initial.archive (map wanted_view l.wanted) (map executable_view l.found.items) l.archive (map wanted_view (drop l.case-index l.wanted));
  are : map read_as l.found.items ≡ map wanted_view (take l.case-index l.wanted);
}

use Rattle.std.proofs.Common.{◌≡◌, take, length, map}
use Rattle.case_queries.specs.CollectingWords.{read_as, wanted_view}
use Rattle.case_queries.proofs.collect_executables.are_read.Given as goal

-- those that went by are these
abbrev pub invariant-loop-i : goal.invariant-loop-i
invariant-loop-i l = record {
  long : length l.executables ≡ length l.wanted;
  are : map read_as (take l.i l.executables) ≡ map wanted_view (take l.i l.wanted);
}

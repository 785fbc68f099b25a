use Rattle.std.proofs.Common.{◌-◌, length}
use Rattle.case_queries.specs.Preparing.{StayPrepared}
use Rattle.case_info.specs.CrashWords.{GoesOn, crashes_in}
use Rattle.case_info.proofs.crash_search.find_served.Given as goal

-- the search goes on, and the executables stay
abbrev pub invariant-loop-seq : goal.invariant-loop-seq
invariant-loop-seq g l = record {
  on : GoesOn g.D.Disk l.initial.archive l.initial.search l.search l.archive;
  stay : StayPrepared g.D.Disk l.archive l.prepared;
}

abbrev pub decreases-loop-seq : goal.decreases-loop-seq
decreases-loop-seq g l = length l.search.order.items - length (crashes_in l.search)

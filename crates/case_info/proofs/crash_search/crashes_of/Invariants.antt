use Rattle.std.proofs.Common.{◌≡◌, ◌-◌, length}
use Rattle.case_queries.specs.ExecutableWords.{AreOf}
use Rattle.intake.specs.Parts.{state_of}
use Rattle.case_info.specs.CrashWords.{HasFound, crashes_in}
use Rattle.case_info.proofs.crash_search.crashes_of.Given as goal

-- the crashes of the first cores are found
abbrev pub invariant-loop-seq : goal.invariant-loop-seq
invariant-loop-seq g l = record {
  order : l.search.order ≡ l.initial.search.order;
  stored : AreOf (state_of l.archive).cases l.search.stored;
  found : HasFound g.D.Disk l.initial.archive l.search.order.items (crashes_in l.search) l.archive;
}

abbrev pub decreases-loop-seq : goal.decreases-loop-seq
decreases-loop-seq g l = length l.search.order.items - length (crashes_in l.search)

use Rattle.std.proofs.Common.{◌-◌, vec_len}
use Rattle.case_queries.proofs.FrontLemmas.{FrontIsRead}
use Rattle.case_queries.proofs.front.read_front.Given as goal

abbrev pub invariant-loop-want : goal.invariant-loop-want
invariant-loop-want g l = FrontIsRead g.D.Disk l.fn.archive l.seq l.size l.image.items l.archive

abbrev pub decreases-loop-want : goal.decreases-loop-want
decreases-loop-want g l = l.size - vec_len l.image

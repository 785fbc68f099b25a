use Rattle.case_queries.proofs.RestLemmas.{reads_on}
use Rattle.case_queries.proofs.stack.read_on.Goals as goal

pub returns-clause-reads : goal.returns-clause-reads
returns-clause-reads g c before has reads =
    reads_on g.D.Disk before c.args.archive.now c.read_up_to.new.archive c.args.seq c.args.size c.args.end c.args.image.now.items c.read_up_to.new.image.items c.read_up_to.result has reads c.read_up_to.ensures.read

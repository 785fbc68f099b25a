use Rattle.case_queries.proofs.WindowLemmas.{first_is_seen}
use Rattle.case_queries.proofs.window.see_more.Goals as goal

pub returns-in-At-clause-seen : goal.returns-in-At-clause-seen
returns-in-At-clause-seen g c before has seen =
    rw c.in-At.is (first_is_seen g.D.Disk before c.args.archive.now c.args.seq c.args.size c.in-At.address c.args.front c.first_of.result has seen c.first_of.ensures.kept c.first_of.ensures.size)

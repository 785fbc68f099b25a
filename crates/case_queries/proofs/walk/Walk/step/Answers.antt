use Rattle.std.proofs.Common.{[], length, subst}
use Rattle.case_queries.specs.Walking.{HasStep}
use Rattle.windowed_search.specs.ScanWords.{next_address}
use Rattle.case_queries.proofs.WalkLemmas.{walk_file}
use Rattle.case_queries.proofs.walk.Walk.step.Goals as goal

pub returns-in-File-clause-walks : goal.returns-in-File-clause-walks
returns-in-File-clause-walks g c before space aim so_far has =
    walk_file g.D.Disk before c.args.image space aim c.args.archive.now c.args.self.now c.feed.new.self (length c.in-File.bytes.now) c.in-File.bytes.now c.feed.result so_far c.feed.ensures.others.0 c.feed.ensures.others.1 c.feed.ensures.aim c.feed.ensures.searched (subst (HasStep space c.args.image c.args.self.now.at (next_address c.args.self.now.search)) c.in-File.is has) c.feed.ensures.fault

pub returns-in-Nothing-clause-walks : goal.returns-in-Nothing-clause-walks
returns-in-Nothing-clause-walks g c before space aim so_far has =
    walk_file g.D.Disk before c.args.image space aim c.args.archive.now c.args.self.now c.pass.new.self c.in-Nothing.count [] c.pass.result so_far c.pass.ensures.others.0 c.pass.ensures.others.1 c.pass.ensures.aim c.pass.ensures.searched (subst (HasStep space c.args.image c.args.self.now.at (next_address c.args.self.now.search)) c.in-Nothing.is has) c.pass.ensures.fault

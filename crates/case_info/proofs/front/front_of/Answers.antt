use Rattle.case_info.proofs.FrontLemmas.{sees_front}
use Rattle.case_info.proofs.front.front_of.Goals as goal

pub returns-in-Ok : goal.returns-in-Ok
returns-in-Ok g c = sees_front g.D.Disk c.args.archive.now c.read_front.new.archive c.args.seq _ c.args.want c.in-Ok.front c.in-Ok.ensures

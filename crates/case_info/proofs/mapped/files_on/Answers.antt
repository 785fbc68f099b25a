use Rattle.std.proofs.Common.{Ok}
use Rattle.case_info.specs.Gathering.{SeesFiles, files_view}
use Rattle.case_info.proofs.GatherLemmas.{with_new}
use Rattle.case_info.proofs.mapped.files_on.Goals as goal

pub returns-in-Ok : goal.returns-in-Ok
returns-in-Ok g c = (Ok c.in-Ok.archive, c.in-Ok.ensures, with_new (λ v new. SeesFiles g.D.Disk c.in-Ok.archive c.args.seq (files_view v) new) c.files_in.new.archive c.files_in.result c.files_in.ensures)

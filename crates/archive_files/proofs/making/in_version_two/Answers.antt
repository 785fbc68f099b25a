use Rattle.archive_files.proofs.MakeLemmas.{made_in_two}
use Rattle.archive_files.proofs.making.in_version_two.Goals as goal

pub returns-in-Ok-upgraded : goal.returns-in-Ok-upgraded
returns-in-Ok-upgraded g c = λ shape stands honest.
    made_in_two g.D.Disk shape c.args.disk c.close-disk.result c.in-Ok.archive c.upgrade-upgraded.new.self tt c.a_state_tells_what_lasts.ensures honest stands c.in-Ok.ensures c.in-Ok-upgraded.ensures c.close-disk.ensures

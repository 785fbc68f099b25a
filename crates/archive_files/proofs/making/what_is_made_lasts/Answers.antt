use Rattle.archive_files.proofs.MadeLemmas.{no_case_is_left}
use Rattle.archive_files.proofs.making.what_is_made_lasts.Goals as goal

pub returns : goal.returns
returns g c = λ shape keeps_labels before after honest makes left may. no_case_is_left g.D.Disk shape after keeps_labels (makes honest) left may

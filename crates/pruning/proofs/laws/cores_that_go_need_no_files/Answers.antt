use Rattle.pruning.proofs.FileLemmas.{no_files}
use Rattle.pruning.proofs.laws.cores_that_go_need_no_files.Goals as goal

pub returns : goal.returns
returns c = no_files

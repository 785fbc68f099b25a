use Rattle.mount_table.proofs.LawLemmas.{reads_back}
use Rattle.mount_table.proofs.laws.a_point_reads_back.Goals as goal

pub returns : goal.returns
returns c = reads_back

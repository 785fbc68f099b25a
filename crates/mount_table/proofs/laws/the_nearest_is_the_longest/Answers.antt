use Rattle.mount_table.proofs.LawLemmas.{is_nearest}
use Rattle.mount_table.proofs.laws.the_nearest_is_the_longest.Goals as goal

pub returns : goal.returns
returns c = is_nearest

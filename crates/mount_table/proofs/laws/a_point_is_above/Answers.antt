use Rattle.mount_table.proofs.LawLemmas.{is_at_or_above}
use Rattle.mount_table.proofs.laws.a_point_is_above.Goals as goal

pub returns : goal.returns
returns c = is_at_or_above

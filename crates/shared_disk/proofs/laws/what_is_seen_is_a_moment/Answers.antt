use Rattle.shared_disk.proofs.SeenLemmas.{what_is_seen_is_a_moment}
use Rattle.shared_disk.proofs.laws.what_is_seen_is_a_moment.Goals as goal

pub returns : goal.returns
returns c = what_is_seen_is_a_moment

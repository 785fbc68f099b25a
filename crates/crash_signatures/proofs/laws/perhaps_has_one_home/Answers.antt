use Rattle.crash_signatures.proofs.GroupLawLemmas.{one_home}
use Rattle.crash_signatures.proofs.laws.perhaps_has_one_home.Goals as goal

pub returns : goal.returns
returns c = one_home

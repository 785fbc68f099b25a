use Rattle.crash_signatures.proofs.GroupLawLemmas.{in_one_group}
use Rattle.crash_signatures.proofs.laws.each_core_is_in_one_group.Goals as goal

pub returns : goal.returns
returns c = in_one_group

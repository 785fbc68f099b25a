use Rattle.crash_signatures.proofs.GroupLawLemmas.{by_signature}
use Rattle.crash_signatures.proofs.laws.same_group_iff_same_signature.Goals as goal

pub returns : goal.returns
returns c = by_signature

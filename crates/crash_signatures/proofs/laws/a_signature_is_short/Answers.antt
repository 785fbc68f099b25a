use Rattle.crash_signatures.proofs.LawLemmas.{are_short}
use Rattle.crash_signatures.proofs.laws.a_signature_is_short.Goals as goal

pub returns : goal.returns
returns c = are_short

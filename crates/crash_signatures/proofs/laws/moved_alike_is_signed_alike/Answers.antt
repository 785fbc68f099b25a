use Rattle.crash_signatures.proofs.LawLemmas.{moved_alike}
use Rattle.crash_signatures.proofs.laws.moved_alike_is_signed_alike.Goals as goal

pub returns : goal.returns
returns c = moved_alike

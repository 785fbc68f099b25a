use Rattle.memory_replies.proofs.NamingLemmas.{known_still}
use Rattle.memory_replies.proofs.laws.debug_replaces_unknown.Goals as goal

pub returns : goal.returns
returns c = known_still

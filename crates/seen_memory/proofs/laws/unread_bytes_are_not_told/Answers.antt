use Rattle.seen_memory.proofs.Others.{not_told}
use Rattle.seen_memory.proofs.laws.unread_bytes_are_not_told.Goals as goal

pub returns : goal.returns
returns c = not_told

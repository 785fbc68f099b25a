use Rattle.std.proofs.Common.{length}
use Rattle.crash_signatures.proofs.names.+are_added.Given as goal

abbrev pub decreases-are_added : goal.decreases-are_added
decreases-are_added l = length l.parts.now

use Rattle.unwind.proofs.Standing.{start_last}
use Rattle.unwind.proofs.laws.the_start_is_outermost.Goals as goal

pub returns : goal.returns
returns c = start_last

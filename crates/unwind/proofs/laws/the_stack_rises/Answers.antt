use Rattle.unwind.proofs.Standing.{each_rises}
use Rattle.unwind.proofs.laws.the_stack_rises.Goals as goal

pub returns : goal.returns
returns c = each_rises

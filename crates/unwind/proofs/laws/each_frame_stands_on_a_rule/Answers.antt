use Rattle.unwind.proofs.Standing.{each_stands}
use Rattle.unwind.proofs.laws.each_frame_stands_on_a_rule.Goals as goal

pub returns : goal.returns
returns c = each_stands

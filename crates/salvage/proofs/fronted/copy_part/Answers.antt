use Rattle.std.proofs.Common.{arith}
use Rattle.std.proofs.lemmas.Grind.{common_steps}
use Rattle.disk_model.specs.Places.{part}
use Rattle.salvage.proofs.fronted.copy_part.Goals as goal

pub returns : goal.returns
unfolding part
returns c = grind (arith, common_steps)

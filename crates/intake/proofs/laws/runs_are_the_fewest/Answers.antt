use Rattle.extents.specs.RunLaws.{blocks_of_runs}
use Rattle.intake.proofs.RunCountLemmas.{runs_fewest}
use Rattle.intake.proofs.laws.runs_are_the_fewest.Goals as goal

pub returns : goal.returns
returns c blocks = (blocks_of_runs blocks, runs_fewest blocks)

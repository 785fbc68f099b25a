use Rattle.shared_disk.specs.WriteLaws.{writes_are_steps}
use Rattle.shared_disk.proofs.laws.writes_are_steps.Goals as goal

pub returns : goal.returns
returns c = writes_are_steps

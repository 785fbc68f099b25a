use Rattle.shared_disk.specs.LookLaws.{is_a_moment}
use Rattle.shared_disk.proofs.laws.two_readings_are_a_moment.Goals as goal

pub returns : goal.returns
returns c = is_a_moment

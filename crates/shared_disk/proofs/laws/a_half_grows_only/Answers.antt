use Rattle.shared_disk.specs.GrowLaws.{a_half_grows_only}
use Rattle.shared_disk.proofs.laws.a_half_grows_only.Goals as goal

pub returns : goal.returns
returns c = a_half_grows_only

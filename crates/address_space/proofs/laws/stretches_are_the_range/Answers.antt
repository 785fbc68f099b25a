use Rattle.address_space.proofs.Coverings.{partition}
use Rattle.address_space.proofs.laws.stretches_are_the_range.Goals as goal

pub returns : goal.returns
returns c = partition

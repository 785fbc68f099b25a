use Rattle.std.proofs.Common.{length}
use Rattle.address_space.proofs.layers.+layered.Given as goal

abbrev pub decreases-layered : goal.decreases-layered
decreases-layered l = length l.rows.now

use Rattle.std.proofs.Common.{arith}
use Rattle.std.proofs.lemmas.Grind.{common_steps}
use Rattle.disk_model.specs.Places.{part}
use Rattle.disk_model.proofs.mem_disk.MemDiskDisk.read_at.Goals as goal

pub returns-clause-bytes : goal.returns-clause-bytes
unfolding part
returns-clause-bytes c = grind (arith, common_steps)

use Rattle.std.proofs.Common.{length}
use Rattle.case_unpacking.proofs.folder.NewFolder.remove.Given as goal

-- each time one goes
abbrev pub decreases-loop-made : goal.decreases-loop-made
decreases-loop-made g l = length l.self.made.items

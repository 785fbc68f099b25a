-- Each turn writes some of the bytes that are left.
use Rattle.std.proofs.Common.{◌-◌}
use Rattle.archive_files.proofs.archives.write_zeros.Given as goal

abbrev pub decreases-loop-at : goal.decreases-loop-at
decreases-loop-at g l = l.length - l.at

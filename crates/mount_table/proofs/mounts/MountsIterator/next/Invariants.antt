use Rattle.std.proofs.Common.{◌≡◌, length}
use Rattle.mount_table.specs.MountWords.{mounts_left}
use Rattle.mount_table.specs.PiecesLeft.{pieces_left}
use Rattle.mount_table.proofs.mounts.MountsIterator.next.Given as goal

-- the lines so far were none of mounts
abbrev pub invariant-loop-line : goal.invariant-loop-line
invariant-loop-line l = mounts_left l.initial.self ≡ mounts_left l.self

abbrev pub decreases-loop-line : goal.decreases-loop-line
decreases-loop-line l = length (pieces_left l.self.lines)

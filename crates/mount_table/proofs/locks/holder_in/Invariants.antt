use Rattle.std.proofs.Common.{◌≡◌}
use Rattle.mount_table.specs.Locks.{holder_among, holder_in}
use Rattle.mount_table.specs.PiecesLeft.{pieces_left}
use Rattle.mount_table.proofs.locks.holder_in.Given as goal

-- the lines so far have no lock on the file
abbrev pub invariant-loop-line : goal.invariant-loop-line
invariant-loop-line l = holder_in l.text l.file ≡ holder_among l.file (pieces_left l.lines)

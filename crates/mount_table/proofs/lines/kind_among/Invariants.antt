use Rattle.std.proofs.Common.{◌≡◌}
use Rattle.mount_table.specs.Lines.{kind_among}
use Rattle.mount_table.specs.PiecesLeft.{pieces_left}
use Rattle.mount_table.proofs.lines.kind_among.Given as goal

-- what all fields say is what those that are left say
abbrev pub invariant-loop-one : goal.invariant-loop-one
invariant-loop-one l = kind_among (pieces_left l.fn.fields) ≡ kind_among (pieces_left l.rest)

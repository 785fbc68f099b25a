use Rattle.std.proofs.Common.{◌≡◌, length}
use Rattle.mount_table.specs.Locks.{words_left}
use Rattle.mount_table.specs.PiecesLeft.{pieces_left}
use Rattle.mount_table.proofs.locks.next_word.Given as goal

-- the pieces so far were empty
abbrev pub invariant-loop-piece : goal.invariant-loop-piece
invariant-loop-piece l = words_left l.initial.pieces ≡ words_left l.pieces

abbrev pub decreases-loop-piece : goal.decreases-loop-piece
decreases-loop-piece l = length (pieces_left l.pieces)

use Rattle.std.proofs.Common.{◌≡◌, map, take}
use Rattle.core_crashes.specs.CaseReading.{lent_view, piece_view}
use Rattle.core_crashes.proofs.pieces.lent.Given as goal

-- those that went by
abbrev pub invariant-loop-piece : goal.invariant-loop-piece
invariant-loop-piece l = map lent_view l.parts.items ≡ map piece_view (take l.piece-index l.pieces)

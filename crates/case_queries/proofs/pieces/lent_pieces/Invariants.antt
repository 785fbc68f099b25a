use Rattle.std.proofs.Common.{◌≡◌, take, map}
use Rattle.case_queries.specs.PieceWords.{lent_view}
use Rattle.case_queries.specs.Pieces.{piece_view}
use Rattle.case_queries.proofs.pieces.lent_pieces.Given as goal

-- those that went by
abbrev pub invariant-loop-piece : goal.invariant-loop-piece
invariant-loop-piece l = map lent_view l.all.items ≡ map piece_view (take l.piece-index l.pieces)

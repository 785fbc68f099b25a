use Rattle.std.specs.List.{flat_map}
use Rattle.script_streams.specs.Printing.{sink}
use Rattle.address_space.specs.PieceWords.{pieces_left}
use Rattle.address_space.specs.Pieces.{pieces_of}
use Rattle.address_space.specs.SpaceWords.{space_of}
use Rattle.memory_replies.proofs.PrintLemmas.{PrintsUpTo}
use Rattle.memory_replies.proofs.TextLemmas.{piece_text}
use Rattle.memory_replies.proofs.texts.print_pieces.Given as goal

abbrev pub invariant-loop-piece : goal.invariant-loop-piece
invariant-loop-piece g l = record {
  can_next : (goal.iterator-loop-piece g).can_next l.piece-iterator;
  is_finite : (goal.iterator-loop-piece g).is_finite l.piece-iterator;
  told : PrintsUpTo (sink g.O.Output l.initial.reply) (sink g.O.Output l.reply)
      (flat_map piece_text (pieces_of (space_of l.space) l.start l.count)) (flat_map piece_text (pieces_left l.piece-iterator));
}

use Rattle.std.proofs.Common.{ap}
use Rattle.std.specs.List.{flat_map}
use Rattle.script_streams.specs.PrintLaws.{prints_as}
use Rattle.memory_replies.proofs.PrintLemmas.{up_to_end, up_to_then}
use Rattle.memory_replies.proofs.TextLemmas.{piece_text, shown_pieces}
use Rattle.memory_replies.proofs.texts.print_pieces.Goals as goal

pub loop-piece-preserved : goal.loop-piece-preserved
loop-piece-preserved g c = record {
  can_next = tt;
  is_finite = tt;
  told = up_to_then (ap (flat_map piece_text) c.in-Some.ensures.steps) c.loop-piece.invariant.told c.print_piece.ensures;
}

pub returns : goal.returns
returns g c =
    prints_as (shown_pieces _ _ _) (up_to_end (ap (flat_map piece_text) c.in-None.ensures.steps.0) c.loop-piece.invariant.told)

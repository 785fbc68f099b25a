use Rattle.mount_table.proofs.PieceLemmas.{alone, found}
use Rattle.mount_table.proofs.pieces.first_piece.Goals as goal

pub returns-in-Some : goal.returns-in-Some
returns-in-Some c =
    rw (c.split_at.ensures.front, c.split_at-in-Some.ensures.back, c.split_at.ensures.back) (found c.args.separator c.args.text.now c.in-Some.at c.in-Some.ensures.place)

pub returns-in-None : goal.returns-in-None
returns-in-None c = alone c.args.separator c.args.text.now c.in-None.ensures.place

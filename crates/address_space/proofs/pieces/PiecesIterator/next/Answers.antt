use Rattle.std.proofs.Common.{ℕ, ◌+◌, ◌-◌, List, ◌∷◌, length, ap, ◌∙◌, arith}
use Rattle.address_space.specs.Source.{Content}
use Rattle.address_space.specs.Pieces.{PieceView, pieces_of}
use Rattle.address_space.specs.SourceWords.{kind_view}
use Rattle.address_space.specs.SpaceWords.{space_of}
use Rattle.address_space.proofs.Piecing.{next_piece, no_pieces, pieces_onward}
use Rattle.address_space.proofs.pieces.PiecesIterator.next.Goals as goal

pub returns-then-self-eq0-clause-steps : goal.returns-then-self-eq0-clause-steps
returns-then-self-eq0-clause-steps c =
    let none = no_pieces (space_of c.args.self.now.space.now) c.args.self.now.at c.args.self.now.left c.if-self-eq0.true in (none, none)

pub returns-clause-steps : goal.returns-clause-steps
returns-clause-steps c =
    let space = space_of c.args.self.now.space.now in
    let a = c.args.self.now.at in
    let n = c.args.self.now.left in
    let m = c.locate-located.result.length in
    let piece = λ (k : Content (List ℕ)). let p : PieceView = record { first = a; length = m; content = k } in p in
    let within = c.locate-located.ensures.stretch.within in
    next_piece space a n m c.locate-located.ensures.stretch
    ∙ ap (λ k. piece k ∷ pieces_of space (a + m) (n - m)) c.locate-located.ensures.content
    ∙ ap (λ rest. piece (kind_view c.locate-located.result.kind) ∷ rest) (pieces_onward space (a + m) c.saturating_add-self.result (n - m) (λ h. omega (arith, c.saturating_add-self.ensures)))

pub returns-clause-goes : goal.returns-clause-goes
returns-clause-goes c =
    let fewer = ap length (returns-clause-steps c) in record { on = λ _. (tt, tt, omega (arith, fewer)); keeps = tt; rests = λ _. tt }

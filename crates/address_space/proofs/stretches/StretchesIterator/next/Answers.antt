use Rattle.std.proofs.Common.{ℕ, ◌+◌, ◌-◌, List, ◌∷◌, refl, ap, ◌∙◌, arith}
use Rattle.elf_view.specs.Header.{segments_of}
use Rattle.address_space.specs.Source.{Content}
use Rattle.address_space.specs.Pieces.{PieceView, pieces_of}
use Rattle.address_space.specs.SpaceWords.{space_of}
use Rattle.address_space.specs.StretchWords.{shown_in}
use Rattle.address_space.specs.StretchesWords.{front_of}
use Rattle.address_space.specs.Whole.{space_in}
use Rattle.address_space.proofs.Filled.{narrowed}
use Rattle.address_space.proofs.Piecing.{next_piece, no_pieces, pieces_onward}
use Rattle.address_space.proofs.stretches.StretchesIterator.next.Goals as goal

pub returns-then-self-eq0-clause-steps : goal.returns-then-self-eq0-clause-steps
returns-then-self-eq0-clause-steps c = record {
  front = refl;
  size = refl;
  pieces = λ b front. (let none = no_pieces (space_in b (space_of c.args.self.now.space.now)) c.args.self.now.at c.args.self.now.left c.if-self-eq0.true in (none, none));
  within = λ start past all. all;
  held = λ start past all. tt;
}

pub returns-clause-steps : goal.returns-clause-steps
returns-clause-steps c =
    let a = c.args.self.now.at in
    let n = c.args.self.now.left in
    let m = c.place-placed.result.length in
    let piece = λ (k : Content (List ℕ)). let p : PieceView = record { first = a; length = m; content = k } in p in
    let count = c.place-placed.ensures.count in
    let added = c.saturating_add-self.ensures in
    let fits = c.args.self.now.fits in
    record {
      front = refl;
      size = refl;
      pieces = λ b front.
          let space = space_in b (space_of c.args.self.now.space.now) in
          next_piece space a n m (c.place-placed.ensures.stretch b front)
          ∙ ap (λ k. piece k ∷ pieces_of space (a + m) (n - m)) (c.place-placed.ensures.content b front)
          ∙ ap (λ rest. piece (shown_in b m c.place-placed.result.kind) ∷ rest) (pieces_onward space (a + m) c.saturating_add-self.result (n - m) (λ h. omega (arith, added)));
      within = λ start past all. narrowed c.args.self.now.size a n c.saturating_add-self.result (n - m) start past (λ e after before. (omega (arith, added, fits, count, after, before), omega (arith, added, fits, count, after, before))) (segments_of (front_of c.args.self.now)) all;
      held = λ start past all. c.place-placed.ensures.held start past all;
    }

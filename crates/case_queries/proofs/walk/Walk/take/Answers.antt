use Rattle.std.proofs.Common.{◌≡◌, ◌+◌, ◌-◌, subst, sym, arith}
use Rattle.std.proofs.lemmas.Result.{err_from_is_err_and}
use Rattle.case_queries.specs.Walking.{HasValues}
use Rattle.windowed_search.specs.ScanWords.{next_address}
use Rattle.case_queries.proofs.WalkLemmas.{has_cut}
use Rattle.case_queries.proofs.walk.Walk.take.Goals as goal

pub loop-left-preserved : goal.loop-left-preserved
loop-left-preserved g c =
    let so_far = c.loop-left.invariant in
    let took = c.in_ok-take_piece.ensures in
    let image = c.args.image in
    let left = c.loop-left.left in
    let piece = c.min-piece.result in
    let at = so_far.at in
    let address = so_far.address in
    let within = c.requires.within in
    record {
      has = took.has;
      at = (let next = took.at in omega (arith, next, at, c.min-piece.ensures));
      address = (let next = took.address in omega (arith, next, address, c.min-piece.ensures));
      buffer = took.buffer;
      walks = λ before space aim start has.
          let now = so_far.walks before space aim start has in
          let a = next_address c.loop-left.self.search in
          let p = c.loop-left.self.at in
          let whole : left ≡ piece + (left - piece) = omega (arith, c.min-piece.ensures) in
          let both = has_cut space image a p piece (left - piece) (omega (arith, at, within, whole)) (subst (HasValues space image a p) whole now.1) in (
            took.walks before space aim now.0 both.0,
            subst (λ b. HasValues space image b c.take_piece.new.self.at (left - piece)) (sym took.address) (subst (λ q. HasValues space image (a + piece) q (left - piece)) (sym took.at) both.1),
          );
    }

pub returns-in_err-take_piece-clause-walks : goal.returns-in_err-take_piece-clause-walks
returns-in_err-take_piece-clause-walks g c before space aim start has =
    let p = err_from_is_err_and c.from_residual.result c.from_residual.ensures.1 in
    let so_far = c.loop-left.invariant in
    let now = so_far.walks before space aim start has in
    let left = c.loop-left.left in
    let piece = c.min-piece.result in
    let at = so_far.at in
    let within = c.requires.within in
    let a = next_address c.loop-left.self.search in
    let q = c.loop-left.self.at in
    let whole : left ≡ piece + (left - piece) = omega (arith, c.min-piece.ensures) in
    let both = has_cut space c.args.image a q piece (left - piece) (omega (arith, at, within, whole)) (subst (HasValues space c.args.image a q) whole now.1) in
    rw (p.1, p.2) (c.in_err-take_piece.ensures.walks before space aim now.0 both.0)

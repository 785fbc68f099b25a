use Rattle.std.proofs.Common.{arith}
use Rattle.case_queries.proofs.PieceLemmas.{apart_then, beside_rest}
use Rattle.case_queries.proofs.pieces.without_all.Goals as goal

pub loop-piece-preserved : goal.loop-piece-preserved
loop-piece-preserved c =
    let ps = c.args.pieces.now in
    let i = c.loop-piece.piece-index in
    let so_far = c.loop-piece.invariant in
    let now = c.without-left.ensures in
    let inside = so_far.inside in
    let more = now.inside in record {
      has = now.has;
      inside = (omega (arith, inside.0, more.0), omega (arith, inside.1, more.1));
      beside = beside_rest c.args.place ps i so_far.beside;
      apart = λ start past low high rest.
          apart_then ps i _ c.piece-item.result c.without-left.result.start c.without-left.result.past start past (omega arith) c.piece-item.is low high now.apart (so_far.apart start past (omega (arith, low, more.0)) (omega (arith, high, more.1))) rest;
    }

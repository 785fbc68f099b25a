use Rattle.std.proofs.Common.{◌≤◌, length, sym, subst, arith}
use Rattle.case_queries.specs.Pieces.{AreApart, HasMore, SeesPieces}
use Rattle.case_queries.proofs.MoreLemmas.{piece_more, piece_seen}
use Rattle.case_queries.proofs.pieces.read_more.Goals as goal

pub returns-clause-sees : goal.returns-clause-sees
returns-clause-sees g c before sees =
    let o = c.args.image in
    let ps = c.args.pieces.now.items in
    let r = c.without_all-range.result in
    let now = c.without_all-range.ensures in
    let around = c.around-around.ensures in
    let low : r.start ≤ r.past = (let has = now.has in omega (arith, has.0, has.1)) in
    let after : length o.front.now ≤ r.start = (let inside = now.inside in let first = around.after in omega (arith, inside.0, first)) in
    let within : r.past ≤ o.size = (let inside = now.inside in let last = around.within in omega (arith, inside.1, last)) in
    let apart = subst (AreApart r.start r.past) c.deref.ensures.value now.apart in
    subst (λ qs. SeesPieces g.D.Disk before o qs c.read_piece.new.archive) (sym c.in-Ok.ensures.items)
    (piece_seen g.D.Disk before c.args.archive.now c.read_piece.new.archive o ps r.start r.past c.requires.has c.in_ok-piece.piece c.in_ok-piece.ensures low after within apart sees)

pub returns-clause-read : goal.returns-clause-read
returns-clause-read g c =
    let o = c.args.image in
    let ps = c.args.pieces.now.items in
    let r = c.without_all-range.result in
    let now = c.without_all-range.ensures in
    let around = c.around-around.ensures in
    let low : r.start ≤ r.past = (let has = now.has in omega (arith, has.0, has.1)) in
    let after : length o.front.now ≤ r.start = (let inside = now.inside in let first = around.after in omega (arith, inside.0, first)) in
    let within : r.past ≤ o.size = (let inside = now.inside in let last = around.within in omega (arith, inside.1, last)) in
    let apart = subst (AreApart r.start r.past) c.deref.ensures.value now.apart in
    subst (λ qs. HasMore o ps qs) (sym c.in-Ok.ensures.items)
    (piece_more g.D.Disk c.args.archive.now c.args.archive.now c.read_piece.new.archive o ps r.start r.past c.requires.has c.in_ok-piece.piece c.in_ok-piece.ensures low after within apart)

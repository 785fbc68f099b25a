use Rattle.std.proofs.Common.{◌≡◌, ◌<◌, ◌^◌, [], sym, subst, arith, rules}
use Rattle.std.specs.Option.{MatchOption}
use Rattle.address_space.specs.Source.{decider}
use Rattle.address_space.specs.CursorWords.{to_come}
use Rattle.address_space.specs.SpaceWords.{space_of}
use Rattle.address_space.specs.declared.row.Row.{Row}
use Rattle.address_space.proofs.Leaping.{leap_none, leap_number, leap_start}
use Rattle.address_space.proofs.space.AddressSpace.leap.Goals as goal

pub returns-in_err-row-clause-same : goal.returns-in_err-row-clause-same
unfolding space_of decider
returns-in_err-row-clause-same c test =
    let space = space_of c.args.self.now in
    let cursor = c.args.cursor in
    let small : cursor.at < 2 ^ 64 = search rules in
    rw c.from_residual.ensures (leap_none space c.args.order.now.rows.items c.requires.order cursor.number cursor.at cursor.left small c.requires.elsewhere test c.in_err-row.ensures)

pub returns-then-row-cursor-clause-same : goal.returns-then-row-cursor-clause-same
unfolding space_of decider
returns-then-row-cursor-clause-same c test =
    let space = space_of c.args.self.now in
    let cursor = c.args.cursor in
    let row : Row = c.in_ok-row.row in
    let small : cursor.at < 2 ^ 64 = search rules in
    let on = leap_number space c.args.order.now.rows.items c.requires.order cursor.number cursor.at cursor.left small c.requires.elsewhere test row c.in_ok-row.ensures.2 c.if-row-cursor.true in
    subst (λ l. MatchOption c.begin.result (l ≡ []) (λ d. l ≡ to_come space test d)) (sym on) (c.begin.ensures.same test)

pub returns-clause-same : goal.returns-clause-same
unfolding space_of decider
returns-clause-same c test =
    let space = space_of c.args.self.now in
    let cursor = c.args.cursor in
    let row : Row = c.in_ok-row.row in
    let small : cursor.at < 2 ^ 64 = search rules in
    let fits = c.requires.order.fits row c.in_ok-row.ensures.0 in
    let behind = c.in_ok-row.ensures.1 in
    let last = c.if-row-cursor.false in
    let number : row.number ≡ cursor.number = omega (arith, fits, behind, last, small) in
    leap_start space c.args.order.now.rows.items c.requires.order cursor.number cursor.at cursor.left small c.requires.elsewhere test row c.in_ok-row.ensures.2 number c.min-skipped.result c.saturating_add.result (omega (arith, c.min-skipped.ensures)) (omega (arith, c.min-skipped.ensures)) (λ h. omega (arith, c.saturating_add.ensures))

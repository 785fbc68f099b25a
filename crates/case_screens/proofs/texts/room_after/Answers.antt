use Rattle.std.proofs.Common.{arith, ap, length}
use Rattle.case_screens.proofs.TextLemmas.{name_long, name_short}
use Rattle.case_screens.proofs.texts.room_after.Goals as goal

pub returns-then-name-width : goal.returns-then-name-width
returns-then-name-width c = let long = name_long c.args.name.now in omega (arith, long, c.if-name-width.true, c.requires)

pub returns : goal.returns
returns c =
    let whole = ap length (name_short c.args.name.now (omega (arith, c.if-name-width.false, c.requires))) in
    omega (arith, whole, c.saturating_sub.ensures, c.saturating_sub-2.ensures, c.shown_length.ensures)

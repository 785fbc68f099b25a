use Rattle.std.proofs.Common.{to_z, w64, arith, ◌∙◌}
use Rattle.std.proofs.lemmas.Int.{to_z_pos}
use Rattle.jiff.proofs.SpanFacts.{signed_arith, date_add-days, can_add-days}
use Rattle.case_tables.proofs.DayLemmas.{first_day}
use Rattle.case_tables.proofs.days.days_after.Goals as goal

pub unwrap-requires : goal.unwrap-requires
unwrap-requires c =
    let zero_day = first_day c.date.result c.date.ensures.0 c.date.ensures.1 c.date.ensures.2 in
    let days = to_z_pos w64 c.args.number (omega (arith, c.requires)) in
    let can = can_add-days c.date.result (to_z w64 c.args.number) c.days-days.result c.days-days.ensures in
    c.checked_add.ensures.succeeds.1 (can.1 (rw (zero_day, days) (omega (arith, signed_arith, c.requires))))

pub returns : goal.returns
returns c =
    let zero_day = first_day c.date.result c.date.ensures.0 c.date.ensures.1 c.date.ensures.2 in
    let days = to_z_pos w64 c.args.number (omega (arith, c.requires)) in
    let moved = date_add-days c.date.result (to_z w64 c.args.number) c.days-days.result c.days-days.ensures in
    let value = rw c.unwrap.ensures at c.checked_add.ensures.value in
    value ∙ moved ∙ (rw (zero_day, days) (omega (arith, signed_arith)))

use Rattle.address_space.proofs.Sheets.{sheet_apart, sheet_rising}
use Rattle.address_space.proofs.table.Table.layered.Goals as goal

pub invariant_of-result : goal.invariant_of-result
invariant_of-result c =
    let rows = c.in_ok-rows.rows.items in
    let sheet = c.in_ok-rows.ensures.sheet in
    record { rising = sheet_rising rows sheet; apart = sheet_apart rows sheet }

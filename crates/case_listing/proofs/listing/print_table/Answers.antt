use Rattle.std.proofs.Common.{[], rules}
use Rattle.case_listing.proofs.listing.print_table.Goals as goal

pub returns-in-Ok-clause-told : goal.returns-in-Ok-clause-told
returns-in-Ok-clause-told g c =
    let table = c.in_ok-some.ensures.is_table in
    let all = table.2 _ _ _ [] c.new-reply.ensures.told in
    let sent = rw c.in-Ok.is at c.finish.ensures.delivered _ _ _ _ all in
    (table.0, table.1, search (all.same, c.finish.ensures.same, sent, rules))

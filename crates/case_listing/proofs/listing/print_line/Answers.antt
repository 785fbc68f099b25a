use Rattle.std.proofs.Common.{[], rules}
use Rattle.case_listing.proofs.listing.print_line.Goals as goal

pub returns-in-Ok : goal.returns-in-Ok
returns-in-Ok g c =
    let text = c.print.ensures _ _ _ [] c.new-reply.ensures.told in
    let all = c.print-2.ensures _ _ _ _ text in
    let sent = rw c.in-Ok.is at c.finish.ensures.delivered _ _ _ _ all in
    search (all.same, c.finish.ensures.same, sent, rules)

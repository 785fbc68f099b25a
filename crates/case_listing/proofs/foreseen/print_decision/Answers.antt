use Rattle.std.proofs.Common.{[], rules}
use Rattle.case_listing.proofs.foreseen.print_decision.Goals as goal

pub returns : goal.returns
returns g c =
    let all = c.print_retired.ensures _ _ _ [] c.new-reply.ensures.told in
    let sent = c.finish.ensures.delivered _ _ _ _ all in
    (c.finish.result, search (all.same, c.finish.ensures.same, sent, rules), c.sent_told.ensures)

use Rattle.std.proofs.Common.{[], rules}
use Rattle.case_listing.proofs.plain_text.send_plain.Goals as goal

pub returns : goal.returns
returns g c =
    let all = c.print_plain.ensures _ _ _ [] c.new-reply.ensures.told in
    let taken = c.finish.ensures.delivered _ _ _ _ all in
    search (all.same, c.finish.ensures.same, taken, rules)

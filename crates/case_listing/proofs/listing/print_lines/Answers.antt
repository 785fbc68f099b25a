use Rattle.std.proofs.Common.{[], rules}
use Rattle.case_listing.proofs.listing.print_lines.Goals as goal

pub returns-in-Ok : goal.returns-in-Ok
returns-in-Ok g c =
    let lines = c.in_ok-some.ensures.are_lines in
    let all = lines.2 _ _ _ [] c.new-reply.ensures.told in
    let sent = rw c.in-Ok.is at c.finish.ensures.delivered _ _ _ _ all in record {
      shown = lines.0;
      in_order = lines.1;
      told = search (all.same, c.finish.ensures.same, sent, rules);
      some_is = c.in_ok-some.ensures.some;
    }

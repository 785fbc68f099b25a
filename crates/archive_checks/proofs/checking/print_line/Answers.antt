use Rattle.std.proofs.Common.{[], rules}
use Rattle.archive_checks.proofs.checking.print_line.Goals as goal

pub returns : goal.returns
returns g c =
    let all = c.print_place.ensures _ _ _ [] c.new-reply.ensures.told in
    let sent = c.finish.ensures.delivered _ _ _ _ all in
    (c.finish.result, search (all.same, c.finish.ensures.same, sent, rules))

use Rattle.std.proofs.Common.{[], rules}
use Rattle.archive_checks.proofs.checking.print_archive.Goals as goal

pub returns-clause-told : goal.returns-clause-told
returns-clause-told g c =
    let told = c.print_holdings-told.ensures.states in
    let all = told.2 _ _ _ [] c.new-reply.ensures.told in
    let sent = c.finish-sent.ensures.delivered _ _ _ _ all in
    (told.0, c.print_holdings-told.result, c.finish-sent.result, told.1, search (all.same, c.finish-sent.ensures.same, sent, rules), c.check_end.ensures)

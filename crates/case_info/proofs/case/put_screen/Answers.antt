use Rattle.std.proofs.Common.{[], rules}
use Rattle.case_info.proofs.case.put_screen.Goals as goal

pub returns-in-Ok : goal.returns-in-Ok
returns-in-Ok c =
    let all = c.print_case_screen.ensures.is_screen _ _ _ [] c.new-reply.ensures.told in
    let sent = rw c.in-Ok.is at c.finish.ensures.delivered _ _ _ _ all in
    search (all.same, c.finish.ensures.same, sent, c.new-text.ensures, rules)

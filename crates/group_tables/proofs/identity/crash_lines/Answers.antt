use Rattle.std.proofs.Common.{[], rules}
use Rattle.group_tables.proofs.identity.crash_lines.Goals as goal

pub returns-in-Ok : goal.returns-in-Ok
returns-in-Ok c =
    let all = c.print_lines.ensures _ _ _ [] c.new-reply.ensures.told in
    let sent = rw c.in-Ok.is at c.finish.ensures.delivered _ _ _ _ all in
    search (all.same, c.finish.ensures.same, sent, c.new-text.ensures, c.into_text.ensures, rules)

use Rattle.std.proofs.Common.{[], rules}
use Rattle.archive_files.proofs.checks.print_hidden.Goals as goal

pub returns-clause-told : goal.returns-clause-told
returns-clause-told g c =
    let all = c.print_gate.ensures _ _ _ [] c.new-reply.ensures.told in
    let taken = c.finish.ensures.delivered _ _ _ _ all in
    (c.finish.result, search (all.same, c.finish.ensures.same, taken, rules))

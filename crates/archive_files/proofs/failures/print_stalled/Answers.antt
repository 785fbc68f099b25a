use Rattle.std.proofs.Common.{[], rules}
use Rattle.archive_files.proofs.failures.print_stalled.Goals as goal

pub returns-clause-told : goal.returns-clause-told
returns-clause-told g c =
    let begun = c.print.ensures _ _ _ [] c.new-reply.ensures.told in
    let words = c.print_stall.ensures _ _ _ _ begun in
    let all = c.print-2.ensures _ _ _ _ words in
    let taken = c.finish.ensures.delivered _ _ _ _ all in
    (c.finish.result, search (all.same, c.finish.ensures.same, taken, rules))

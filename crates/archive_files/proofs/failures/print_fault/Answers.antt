use Rattle.std.proofs.Common.{[], rules}
use Rattle.archive_files.proofs.failures.print_fault.Goals as goal

pub returns-clause-told : goal.returns-clause-told
returns-clause-told g c =
    let fault = c.print.ensures _ _ _ [] c.new-reply.ensures.told in
    let name = c.print-2.ensures _ _ _ _ fault in
    let all = c.print-3.ensures _ _ _ _ name in
    let taken = c.finish.ensures.delivered _ _ _ _ all in
    (c.finish.result, search (all.same, c.finish.ensures.same, taken, rules))

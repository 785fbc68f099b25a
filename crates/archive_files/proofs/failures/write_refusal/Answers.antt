use Rattle.std.proofs.Common.{[], rules}
use Rattle.archive_files.proofs.failures.write_refusal.Goals as goal

pub returns : goal.returns
returns g c =
    let no = c.print.ensures _ _ _ [] c.new-reply.ensures.told in
    let reason = c.print_reason.ensures _ _ _ _ no in
    let all = c.print-2.ensures _ _ _ _ reason in
    let taken = c.finish.ensures.delivered _ _ _ _ all in
    search (all.same, c.finish.ensures.same, taken, rules)

use Rattle.std.proofs.Common.{[], rules}
use Rattle.archive_files.proofs.storing.StoreRequest.printed_name.Goals as goal

pub returns : goal.returns
returns c =
    let all = c.print_name.ensures _ _ _ [] c.new-reply.ensures.told in
    let taken = c.finish.ensures.delivered _ _ _ _ all in
    (c.new-name.result.failures, (c.finish.result, search (all.same, c.finish.ensures.same, taken, c.new-name.ensures, rules)))

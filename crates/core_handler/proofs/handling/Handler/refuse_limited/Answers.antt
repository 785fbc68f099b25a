use Rattle.std.proofs.Common.{[], rules}
use Rattle.core_handler.proofs.handling.Handler.refuse_limited.Goals as goal

pub returns-in_err-finish-clause-told : goal.returns-in_err-finish-clause-told
returns-in_err-finish-clause-told g c =
    let all = c.print.ensures _ _ _ [] c.new-reply.ensures.told in
    let taken = c.finish.ensures.delivered _ _ _ _ all in
    (c.finish.result, search (all.same, c.finish.ensures.same, taken, rules))

pub returns-clause-told : goal.returns-clause-told
returns-clause-told g c =
    let all = c.print.ensures _ _ _ [] c.new-reply.ensures.told in
    let taken = c.finish.ensures.delivered _ _ _ _ all in
    (c.finish.result, search (all.same, c.finish.ensures.same, taken, rules))

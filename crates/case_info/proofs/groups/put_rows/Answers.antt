use Rattle.std.proofs.Common.{[], rules}
use Rattle.case_info.proofs.GroupLemmas.{rows_so}
use Rattle.case_info.proofs.groups.put_rows.Goals as goal

pub returns-in-Ok : goal.returns-in-Ok
returns-in-Ok c = λ plain.
    rows_so _ _
    (λ text told.
    let all = told _ _ _ [] c.new-reply.ensures.told in
    let sent = rw c.in-Ok.is at c.finish.ensures.delivered _ _ _ _ all in
    search (all.same, c.finish.ensures.same, sent, c.new-text.ensures, rules))
    c.args.form.zone c.args.form.latest c.args.form.case _ (c.in_ok-print_rows.ensures plain)

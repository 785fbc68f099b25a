use Rattle.std.proofs.Common.{[], rules}
use Rattle.script_streams.specs.PrintLaws.{prints_then}
use Rattle.archive_files.proofs.unlocked_checks.report.Goals as goal

pub returns-in-Ok : goal.returns-in-Ok
returns-in-Ok g c =
    let all = prints_then c.print_facts.ensures (prints_then c.print_cases.ensures c.print.ensures) _ _ _ [] c.new-reply.ensures.told in
    let sent = c.in-Ok.ensures.delivered _ _ _ _ all in
    search (all.same, c.in-Ok.ensures.same, sent, rules)

pub returns-in-Err : goal.returns-in-Err
returns-in-Err g c =
    let all = prints_then c.print_facts.ensures (prints_then c.print_cases.ensures c.print.ensures) _ _ _ [] c.new-reply.ensures.told in
    let sent = c.in-Err.ensures.delivered _ _ _ _ all in
    (c.in-Err.field-0, search (all.same, c.in-Err.ensures.same, sent, rules))

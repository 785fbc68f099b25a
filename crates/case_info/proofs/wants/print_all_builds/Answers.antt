use Rattle.std.proofs.Common.{[], rules}
use Rattle.script_streams.specs.PrintLaws.{prints_then}
use Rattle.case_info.proofs.wants.print_all_builds.Goals as goal

pub returns : goal.returns
returns g c =
    let all = prints_then c.print_builds.ensures c.print_ok.ensures _ _ _ [] c.new-reply.ensures.told in
    let sent = c.finish.ensures.delivered _ _ _ _ all in
    search (all.same, c.finish.ensures.same, sent, rules)

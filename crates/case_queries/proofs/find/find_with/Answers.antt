use Rattle.std.proofs.Common.{map}
use Rattle.windowed_search.specs.ScanWords.{aim_of}
use Rattle.case_queries.specs.Asking.{for_aim}
use Rattle.case_queries.specs.CollectingWords.{executable_view}
use Rattle.case_queries.proofs.FindLemmas.{memory_outcome, none_shown}
use Rattle.case_queries.proofs.find.find_with.Goals as goal

pub returns-in-Err : goal.returns-in-Err
returns-in-Err g c before reads =
    let image = c.args.image in
    (_, none_shown g.D.Disk before image c.args.archive.now (map executable_view c.args.executables.now) (for_aim (aim_of c.args.sought)) c.requires.has c.requires.short reads, memory_outcome _ c.print_no_memory.ensures.done, c.print_no_memory.ensures.states)

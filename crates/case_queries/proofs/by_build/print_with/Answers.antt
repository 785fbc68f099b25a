use Rattle.std.proofs.Common.{List, Ok, inr, ◌++◌, map, refl, subst}
use Rattle.address_space.specs.Source.{ExecutableView}
use Rattle.memory_replies.specs.Memory.{attached_view}
use Rattle.case_queries.specs.Asking.{files_asking}
use Rattle.case_queries.specs.Collecting.{Wanted}
use Rattle.case_queries.specs.CollectingWords.{read_as}
use Rattle.case_queries.specs.ToldWords.{ShowsTold}
use Rattle.case_queries.proofs.FindLemmas.{memory_outcome}
use Rattle.case_queries.proofs.by_build.print_with.Goals as goal

pub returns-in-Ok : goal.returns-in-Ok
returns-in-Ok g c before sees =
    let o = c.args.image in
    let ps = c.args.told.pieces.items in
    let a = c.args.asked in
    let new = c.print_asked.new.archive in
    let rs = map read_as c.args.executables.now ++ map read_as c.args.debug_files.now in
    let told = c.print_asked.ensures before sees in
    let cases = subst (λ (ws : List Wanted). ShowsTold g.D.Disk before o ps (map attached_view c.in-Ok.lent.attached.items) (files_asking a ws) told.0 new) c.in-Ok.ensures.cases told.1 in
    (told.0, subst (λ (ys : List ExecutableView). ShowsTold g.D.Disk before o ps ys (files_asking a rs) told.0 new) c.in-Ok.ensures.attached cases, told.2, told.3)

pub returns-in-Err : goal.returns-in-Err
returns-in-Err g c before sees = (_, (Ok sees.0, sees.1, (sees.2.0, inr refl)), memory_outcome _ c.print_no_memory.ensures.done, c.print_no_memory.ensures.states)

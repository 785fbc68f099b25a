use Rattle.std.proofs.Common.{List, Ok, Err, ◌++◌, map, refl, subst}
use Rattle.archive_replies.specs.Reasons.{reason_of}
use Rattle.build_replies.specs.Builds.{NamedId}
use Rattle.build_replies.specs.Mapped.{id_view}
use Rattle.intake.specs.Parts.{state_of}
use Rattle.script_streams.specs.Replies.{no_reply}
use Rattle.case_queries.specs.Asking.{debugs_asked, files_asking}
use Rattle.case_queries.specs.Collecting.{CollectsAll, Wanted}
use Rattle.case_queries.specs.CollectingWords.{executable_view, read_as}
use Rattle.case_queries.specs.LeaveLaws.{all_leaves, leaves_then}
use Rattle.case_queries.specs.ToldWords.{ShowsTold}
use Rattle.case_queries.proofs.FindLemmas.{still_pieces, still_sized}
use Rattle.case_queries.proofs.ToldLemmas.{pieces_after, pieces_again, told_leaves}
use Rattle.case_queries.proofs.by_build.print_gathered.Goals as goal

pub print_with-requires-clause-has : goal.print_with-requires-clause-has
print_with-requires-clause-has g c =
    still_sized g.D.Disk g.met.D.Disk.only_now c.args.archive.now c.collect.new.archive c.args.image.seq c.args.image.size _ (map executable_view c.in-Ok.debug_files.items) c.requires.has (c.in-Ok.ensures.collected (debugs_asked c.args.asked (map id_view c.listed.result.now) (map executable_view c.args.executables.now) (state_of c.args.archive.now).cases) c.debugs_asked-wanted.ensures)

pub returns-in-Ok-clause-answers : goal.returns-in-Ok-clause-answers
returns-in-Ok-clause-answers g c before sees =
    let image = c.args.image in
    let told = c.args.told in
    let ps = told.pieces.items in
    let now = c.args.archive.now in
    let mid = c.collect.new.archive in
    let new = c.print_with.new.archive in
    let rs = map read_as c.args.executables.now in
    let xs = map executable_view c.args.executables.now in
    let ds = map executable_view c.in-Ok.debug_files.items in
    let collects = (c.in-Ok.ensures.collected (debugs_asked c.args.asked (map id_view c.listed.result.now) (map executable_view c.args.executables.now) (state_of c.args.archive.now).cases) c.debugs_asked-wanted.ensures) in
    let leaves = all_leaves g.D.Disk now mid _ (Ok ds) collects in
    let again = pieces_again g.D.Disk image mid ps (g.met.D.Disk.only_now mid.disk) (pieces_after g.D.Disk image now mid ps leaves c.requires.own) in
    let after = told_leaves g.D.Disk image mid new ps _ (files_asking c.args.asked (rs ++ map read_as c.deref.result.now)) _ (c.print_with.ensures mid again).1 in
    let shown = rw c.deref.ensures.value at (c.print_with.ensures before (still_pieces g.D.Disk g.met.D.Disk.only_now before now mid image ps _ ds sees collects)) in
    let shows = subst (λ (ws : List Wanted). ShowsTold g.D.Disk before image ps (xs ++ ds) (files_asking c.args.asked (rs ++ ws)) shown.0 new) (c.in-Ok.ensures.are (debugs_asked c.args.asked (map id_view c.listed.result.now) (map executable_view c.args.executables.now) (state_of c.args.archive.now).cases) c.debugs_asked-wanted.ensures) shown.1 in (
      shown.0,
      (
        Ok ds,
        mid,
        subst (λ (ts : List NamedId). CollectsAll g.D.Disk now (debugs_asked c.args.asked ts xs (state_of now).cases) (Ok ds) mid) c.listed.ensures collects,
        (subst (λ (ts : List NamedId). ShowsTold g.D.Disk before image ps (xs ++ ds) (files_asking c.args.asked (rs ++ debugs_asked c.args.asked ts xs (state_of now).cases)) shown.0 new) c.listed.ensures shows, after),
      ),
      shown.2,
      shown.3,
    )

pub returns-in-Ok-clause-leaves : goal.returns-in-Ok-clause-leaves
returns-in-Ok-clause-leaves g c =
    let image = c.args.image in
    let ps = c.args.told.pieces.items in
    let now = c.args.archive.now in
    let mid = c.collect.new.archive in
    let new = c.print_with.new.archive in
    let leaves = all_leaves g.D.Disk now mid _ (Ok (map executable_view c.in-Ok.debug_files.items)) (c.in-Ok.ensures.collected (debugs_asked c.args.asked (map id_view c.listed.result.now) (map executable_view c.args.executables.now) (state_of c.args.archive.now).cases) c.debugs_asked-wanted.ensures) in
    let again = pieces_again g.D.Disk image mid ps (g.met.D.Disk.only_now mid.disk) (pieces_after g.D.Disk image now mid ps leaves c.requires.own) in
    leaves_then g.D.Disk now mid new leaves (told_leaves g.D.Disk image mid new ps _ (files_asking c.args.asked (map read_as c.args.executables.now ++ map read_as c.deref.result.now)) _ (c.print_with.ensures mid again).1)

pub returns-in-Err-clause-answers : goal.returns-in-Err-clause-answers
returns-in-Err-clause-answers g c before sees =
    let f = c.in-Err.refusal in
    let now = c.args.archive.now in
    let xs = map executable_view c.args.executables.now in (
      no_reply (reason_of f),
      (
        Err f,
        c.collect.new.archive,
        subst (λ (ts : List NamedId). CollectsAll g.D.Disk now (debugs_asked c.args.asked ts xs (state_of now).cases) (Err f) c.collect.new.archive) c.listed.ensures (c.in-Err.ensures.collected (debugs_asked c.args.asked (map id_view c.listed.result.now) (map executable_view c.args.executables.now) (state_of c.args.archive.now).cases) c.debugs_asked-wanted.ensures),
        (refl, refl),
      ),
      rw c.refused_by.ensures (reason_of f, refl),
      rw c.reason.ensures at c.print_no.ensures,
    )

pub returns-in-Err-clause-leaves : goal.returns-in-Err-clause-leaves
returns-in-Err-clause-leaves g c = all_leaves g.D.Disk c.args.archive.now c.collect.new.archive _ (Err c.in-Err.refusal) (c.in-Err.ensures.collected (debugs_asked c.args.asked (map id_view c.listed.result.now) (map executable_view c.args.executables.now) (state_of c.args.archive.now).cases) c.debugs_asked-wanted.ensures)

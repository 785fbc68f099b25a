use Rattle.std.proofs.Common.{Ok, Err, Some, map, refl, ap}
use Rattle.script_streams.specs.Replies.{no_reply}
use Rattle.archive_replies.specs.Reasons.{reason_of}
use Rattle.build_replies.specs.Choosing.{told_files}
use Rattle.image_replies.specs.CoreWords.{core_bytes}
use Rattle.intake.specs.Parts.{state_of}
use Rattle.script_lines.specs.Queries.{ask_by_build, memory_query}
use Rattle.case_queries.specs.Collecting.{debugs_for, wanted_by}
use Rattle.case_queries.specs.CollectingWords.{executable_view, read_as}
use Rattle.case_queries.specs.LeaveLaws.{all_leaves}
use Rattle.case_queries.proofs.AgainLemmas.{stay_after}
use Rattle.case_queries.proofs.FindLemmas.{runs_after}
use Rattle.case_queries.proofs.GatherLemmas.{core_gathered, unread}
use Rattle.case_queries.proofs.with_builds.answer_in_core.Goals as goal

pub print_gathered-outcome-requires : goal.print_gathered-outcome-requires
print_gathered-outcome-requires g c =
    let wanted = wanted_by (told_files (core_bytes c.args.core.now)) (state_of c.args.archive.now).cases in
    runs_after g.D.Disk g.met.D.Disk.only_now c.args.archive.now c.collect.new.archive wanted (map executable_view c.in-Ok.executables.items) c.requires.runs (c.in-Ok.ensures.collected wanted c.wanted_for_builds-wanted.ensures)

pub returns-in-Ok-clause-answers : goal.returns-in-Ok-clause-answers
returns-in-Ok-clause-answers g c =
    let q = ask_by_build (memory_query c.args.query.now) in
    let b = core_bytes c.args.core.now in
    let now = c.args.archive.now in
    let mid = c.collect.new.archive in
    let wanted = wanted_by (told_files b) (state_of now).cases in
    let xs = map executable_view c.in-Ok.executables.items in
    let told = rw c.deref.ensures.value at c.print_gathered-outcome.ensures.answers in
    let collects = c.in-Ok.ensures.collected wanted c.wanted_for_builds-wanted.ensures in
    let are = c.in-Ok.ensures.are wanted c.wanted_for_builds-wanted.ensures in
    let cases = (all_leaves g.D.Disk now mid wanted (Ok xs) collects).cases in
    (told.0, core_gathered g.D.Disk q b now mid c.print_gathered-outcome.new.archive c.args.kind b (map read_as c.in-Ok.executables.items) xs told.0 collects are (ap (λ cs. debugs_for q b cs xs) cases) told.1, told.2, told.3)

pub returns-in-Ok-clause-kept : goal.returns-in-Ok-clause-kept
returns-in-Ok-clause-kept g c =
    let new = c.print_gathered-outcome.new.archive in
    stay_after g.D.Disk new (g.met.D.Disk.only_now new.disk) c.collect.new.archive (Some c.in-Ok.executables) c.print_gathered-outcome.ensures.leaves c.in-Ok.ensures.kept

pub returns-in-Err-clause-answers : goal.returns-in-Err-clause-answers
returns-in-Err-clause-answers g c =
    let q = ask_by_build (memory_query c.args.query.now) in
    let wanted = wanted_by (told_files (core_bytes c.args.core.now)) (state_of c.args.archive.now).cases in
    let collects = c.in-Err.ensures.collected wanted c.wanted_for_builds-wanted.ensures in
    (no_reply (reason_of c.in-Err.refusal), (Err c.in-Err.refusal, unread g.D.Disk q (core_bytes c.args.core.now) c.args.archive.now c.collect.new.archive c.in-Err.refusal collects, refl), rw c.refused_by.ensures (reason_of c.in-Err.refusal, refl), rw c.reason.ensures at c.print_no.ensures)

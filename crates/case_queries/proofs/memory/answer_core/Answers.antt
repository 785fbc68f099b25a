use Rattle.std.proofs.Common.{Ok, Err, Some, map, List, refl, ap, subst, ◌∙◌}
use Rattle.script_streams.specs.Replies.{no_reply}
use Rattle.archive_replies.specs.Reasons.{reason_of}
use Rattle.image_replies.specs.CoreWords.{core_bytes}
use Rattle.intake.specs.Parts.{state_of}
use Rattle.script_lines.specs.Queries.{memory_query}
use Rattle.case_queries.specs.Collecting.{CollectsAll, Wanted, debugs_for}
use Rattle.case_queries.specs.CollectingWords.{executable_view, read_as}
use Rattle.case_queries.specs.LeaveLaws.{all_leaves}
use Rattle.case_queries.proofs.AgainLemmas.{stay_after}
use Rattle.case_queries.proofs.FindLemmas.{runs_after}
use Rattle.case_queries.proofs.GatherLemmas.{core_gathered, unread}
use Rattle.case_queries.proofs.ShowLemmas.{debugs_same, wanted_same}
use Rattle.case_queries.proofs.memory.answer_core.Goals as goal

pub print_gathered-outcome-requires : goal.print_gathered-outcome-requires
print_gathered-outcome-requires g c =
    runs_after g.D.Disk g.met.D.Disk.only_now c.args.archive.now c.collected.new.archive _ (map executable_view c.in-Ok.executables.items) c.requires.runs c.in-Ok.ensures.collected

pub returns-in-Err-clause-answers : goal.returns-in-Err-clause-answers
returns-in-Err-clause-answers g c image by =
    let wanted = wanted_same c.a_sound_front_names_the_files.ensures c.args.query.now (core_bytes c.args.core.now) c.args.window.size c.args.window.at c.args.window.bytes.now image by (state_of c.args.archive.now).cases in
    let collects = subst (λ (xs : List Wanted). CollectsAll g.D.Disk c.args.archive.now xs (Err c.in-Err.refusal) c.collected.new.archive) wanted c.in-Err.ensures.collected in (
      no_reply (reason_of c.in-Err.refusal),
      (Err c.in-Err.refusal, unread g.D.Disk (memory_query c.args.query.now) image c.args.archive.now c.collected.new.archive c.in-Err.refusal collects, refl),
      rw c.refused_by.ensures (reason_of c.in-Err.refusal, refl),
      rw c.reason.ensures at c.print_no.ensures,
    )

pub returns-in-Ok-clause-answers : goal.returns-in-Ok-clause-answers
returns-in-Ok-clause-answers g c image by =
    let q = memory_query c.args.query.now in
    let now = c.args.archive.now in
    let mid = c.collected.new.archive in
    let front = core_bytes c.args.core.now in
    let told = rw c.deref.ensures.value at (c.print_gathered-outcome.ensures.answers image by) in
    let xs = map executable_view c.in-Ok.executables.items in
    let wanted = wanted_same c.a_sound_front_names_the_files.ensures c.args.query.now front c.args.window.size c.args.window.at c.args.window.bytes.now image by (state_of now).cases in
    let collects = subst (λ (ws : List Wanted). CollectsAll g.D.Disk now ws (Ok xs) mid) wanted c.in-Ok.ensures.collected in
    let cases = (all_leaves g.D.Disk now mid _ (Ok xs) c.in-Ok.ensures.collected).cases in
    let debugs = debugs_same c.args.query.now front c.args.window.size c.args.window.at c.args.window.bytes.now image by (state_of mid).cases xs ∙ ap (λ cs. debugs_for q image cs xs) cases in
    (told.0, core_gathered g.D.Disk q image now mid c.print_gathered-outcome.new.archive c.args.kind front (map read_as c.in-Ok.executables.items) xs told.0 collects (c.in-Ok.ensures.are ∙ wanted) debugs told.1, told.2, told.3)

pub returns-in-Ok-clause-kept : goal.returns-in-Ok-clause-kept
returns-in-Ok-clause-kept g c =
    let new = c.print_gathered-outcome.new.archive in
    stay_after g.D.Disk new (g.met.D.Disk.only_now new.disk) c.collected.new.archive (Some c.in-Ok.executables) c.print_gathered-outcome.ensures.leaves c.in-Ok.ensures.kept

use Rattle.std.proofs.Common.{map, refl}
use Rattle.archive_replies.specs.Reasons.{reason_of}
use Rattle.intake.specs.Parts.{state_of}
use Rattle.script_streams.specs.Replies.{no_reply}
use Rattle.case_queries.specs.Collecting.{own_debugs}
use Rattle.case_queries.specs.CollectingWords.{executable_view}
use Rattle.case_queries.proofs.CodeLemmas.{executable_shown, executable_unread}
use Rattle.case_queries.proofs.ShowLemmas.{answered, outcome_with}
use Rattle.case_queries.proofs.code.answer_executable.Goals as goal

pub returns-in-Ok-clause-answers : goal.returns-in-Ok-clause-answers
returns-in-Ok-clause-answers g c =
    let b = c.args.image.now in
    let wanted = own_debugs b (state_of c.args.archive.now).cases in
    let xs = map executable_view c.in-Ok.files.items in
    let debug = rw c.deref.ensures.value at c.debug_image-debug.ensures in
    let told = rw debug at c.print_code-outcome.ensures in
    let collects = c.in-Ok.ensures.collected wanted c.wanted_own_debugs-wanted.ensures in
    let outcome = c.print_code-outcome.result in
    let shown = executable_shown g.D.Disk c.args.archive.now c.collect.new.archive c.args.kind b c.args.address c.args.query xs told.0 collects (answered outcome _ told.0 told.1) in
    (told.0, shown, outcome_with outcome _ told.0 told.1, told.2)

pub returns-in-Err-clause-answers : goal.returns-in-Err-clause-answers
returns-in-Err-clause-answers g c =
    let b = c.args.image.now in
    let wanted = own_debugs b (state_of c.args.archive.now).cases in
    let collects = c.in-Err.ensures.collected wanted c.wanted_own_debugs-wanted.ensures in
    let shown = executable_unread g.D.Disk c.args.archive.now c.collect.new.archive c.args.kind b c.args.address c.args.query c.in-Err.refusal collects in
    (no_reply (reason_of c.in-Err.refusal), shown, rw c.refused_by.ensures (reason_of c.in-Err.refusal, refl), rw c.reason.ensures at c.print_no.ensures)

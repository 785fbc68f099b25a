use Rattle.std.proofs.Common.{Ok, Err, ◌++◌, map, List, refl, subst}
use Rattle.script_streams.specs.Replies.{no_reply}
use Rattle.archive_replies.specs.Reasons.{reason_of}
use Rattle.image_replies.specs.CoreWords.{core_bytes}
use Rattle.intake.specs.Parts.{state_of}
use Rattle.memory_replies.specs.Answers.{AnswersWith}
use Rattle.script_lines.specs.Queries.{memory_query}
use Rattle.case_queries.specs.Collecting.{Wanted, debugs_for}
use Rattle.case_queries.specs.CollectingWords.{executable_view, read_as}
use Rattle.case_queries.specs.Inspecting.{answer_of}
use Rattle.case_queries.specs.LeaveLaws.{all_leaves}
use Rattle.case_queries.proofs.ShowLemmas.{answered, outcome_with}
use Rattle.case_queries.proofs.memory.print_gathered.Goals as goal

pub returns-in-Ok-clause-answers : goal.returns-in-Ok-clause-answers
returns-in-Ok-clause-answers g c image by =
    let q = memory_query c.args.query.now in
    let rs = map read_as c.args.executables.now in
    let xs = map executable_view c.args.executables.now in
    let ws = debugs_for q (core_bytes c.args.core.now) (state_of c.args.archive.now).cases xs in
    let ds = map executable_view c.in-Ok.debug_files.items in
    let outcome = c.print_with_executables.result in
    let told = rw c.deref.ensures.value at (c.print_with_executables.ensures image by) in
    let answers = subst (λ (vs : List Wanted). AnswersWith outcome (answer_of c.args.kind q image (rs ++ vs) (xs ++ ds)) told.0) (c.in-Ok.ensures.are ws c.debugs_for-wanted.ensures) told.1 in
    (told.0, (Ok ds, c.in-Ok.ensures.collected ws c.debugs_for-wanted.ensures, answered outcome _ told.0 answers), outcome_with outcome _ told.0 told.1, told.2)

pub returns-in-Ok-clause-leaves : goal.returns-in-Ok-clause-leaves
returns-in-Ok-clause-leaves g c =
    let ws = debugs_for (memory_query c.args.query.now) (core_bytes c.args.core.now) (state_of c.args.archive.now).cases (map executable_view c.args.executables.now) in
    all_leaves g.D.Disk c.args.archive.now c.collect.new.archive ws (Ok (map executable_view c.in-Ok.debug_files.items)) (c.in-Ok.ensures.collected ws c.debugs_for-wanted.ensures)

pub returns-in-Err-clause-answers : goal.returns-in-Err-clause-answers
returns-in-Err-clause-answers g c image by =
    let ws = debugs_for (memory_query c.args.query.now) (core_bytes c.args.core.now) (state_of c.args.archive.now).cases (map executable_view c.args.executables.now) in (
      no_reply (reason_of c.in-Err.fault),
      (Err c.in-Err.fault, c.in-Err.ensures.collected ws c.debugs_for-wanted.ensures, refl),
      rw c.refused_by.ensures (reason_of c.in-Err.fault, refl),
      rw c.reason.ensures at c.print_no.ensures,
    )

pub returns-in-Err-clause-leaves : goal.returns-in-Err-clause-leaves
returns-in-Err-clause-leaves g c =
    let ws = debugs_for (memory_query c.args.query.now) (core_bytes c.args.core.now) (state_of c.args.archive.now).cases (map executable_view c.args.executables.now) in
    all_leaves g.D.Disk c.args.archive.now c.collect.new.archive ws (Err c.in-Err.fault) (c.in-Err.ensures.collected ws c.debugs_for-wanted.ensures)

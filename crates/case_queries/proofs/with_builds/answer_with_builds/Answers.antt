use Rattle.std.proofs.Common.{Ok, Err, refl}
use Rattle.archive_replies.specs.Reasons.{reason_of}
use Rattle.script_lines.specs.Queries.{ask_by_build, memory_query}
use Rattle.script_streams.specs.Replies.{no_reply}
use Rattle.case_queries.proofs.AskLemmas.{collected_if, held_if, kept_still}
use Rattle.case_queries.proofs.with_builds.answer_with_builds.Goals as goal

pub returns-in-Ok-clause-answers : goal.returns-in-Ok-clause-answers
returns-in-Ok-clause-answers g c =
    let told = rw c.deref.ensures.value at c.answer_image-outcome.ensures.answers in
    (told.0, (Ok c.in-Ok.seen.image.items, c.see_image.new.archive, c.in-Ok.ensures.seen, told.1), rw c.is_done.ensures told.2, told.3)

pub returns-in-Ok-clause-kept : goal.returns-in-Ok-clause-kept
returns-in-Ok-clause-kept g c =
    let told = rw c.deref.ensures.value at c.answer_image-outcome.ensures.answers in
    held_if g.D.Disk c.answer_image-outcome.new.archive c.kept_if.result _ c.kept_if.ensures
    (kept_still g.D.Disk c.see_image.new.archive c.answer_image-outcome.new.archive c.args.kind (ask_by_build (memory_query c.args.query.now)) c.in-Ok.seen.image.items told.0 c.in-Ok.seen told.1 c.in-Ok.ensures.kept)

pub returns-in-Ok-clause-are_kept : goal.returns-in-Ok-clause-are_kept
returns-in-Ok-clause-are_kept g c =
    collected_if g.D.Disk c.answer_image-outcome.new.archive c.kept_if.result _ c.kept_if.ensures c.answer_image-outcome.ensures.kept

pub returns-in-Err-clause-answers : goal.returns-in-Err-clause-answers
returns-in-Err-clause-answers g c = (
  no_reply (reason_of c.in-Err.fault),
  (Err c.in-Err.fault, c.see_image.new.archive, c.in-Err.ensures.seen, (refl, refl)),
  (reason_of c.in-Err.fault, refl),
  rw c.reason.ensures at c.print_no.ensures,
)

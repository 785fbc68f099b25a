use Rattle.std.proofs.Common.{[], Ok, Err, refl}
use Rattle.script_lines.specs.Queries.{image_query}
use Rattle.script_streams.specs.Replies.{no_reply, reply_of}
use Rattle.archive_replies.specs.Reasons.{reason_of}
use Rattle.case_queries.specs.Inspecting.{answer_of}
use Rattle.case_queries.proofs.ShowLemmas.{image_shown, outcome_is}
use Rattle.case_queries.proofs.by_front.answer_by_front.Goals as goal

pub returns-in-Ok-clause-answers : goal.returns-in-Ok-clause-answers
returns-in-Ok-clause-answers g c =
    let seen = rw c.front_want-want.ensures at c.in-Ok.ensures.seen in
    let told = rw c.deref.ensures.value at c.print_front-is_done.ensures.states in
    let done = rw c.deref.ensures.value at c.print_front-is_done.ensures.done in (
      reply_of (answer_of c.args.kind (image_query c.args.query.now) seen.0 [] []),
      (Ok seen.0, c.see_front.new.archive, seen.1, image_shown g.D.Disk c.see_front.new.archive c.args.kind seen.0 c.args.query.now),
      outcome_is _ _ (done seen.0 seen.2),
      told seen.0 seen.2,
    )

pub returns-in-Err-clause-answers : goal.returns-in-Err-clause-answers
returns-in-Err-clause-answers g c = (
  no_reply (reason_of c.in-Err.fault),
  (Err c.in-Err.fault, c.see_front.new.archive, c.in-Err.ensures.seen, (refl, refl)),
  (reason_of c.in-Err.fault, refl),
  rw c.reason.ensures at c.print_no.ensures,
)

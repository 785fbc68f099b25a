use Rattle.std.proofs.Common.{Option, refl, sym, subst}
use Rattle.image_replies.specs.Reasons.{core_reason}
use Rattle.image_replies.specs.declared.core_image.CoreFault.{CoreFault}
use Rattle.script_lines.specs.Queries.{ask_by_build, memory_query}
use Rattle.script_streams.specs.Replies.{no_reply}
use Rattle.case_queries.specs.Steps.{ShowsWithExecutables}
use Rattle.case_queries.proofs.with_builds.answer_image.Goals as goal

pub returns-in-Ok-clause-answers : goal.returns-in-Ok-clause-answers
returns-in-Ok-clause-answers g c =
    let q = ask_by_build (memory_query c.args.query.now) in
    let told = rw c.in-Ok.ensures.image at c.answer_in_core.ensures.answers in
    let shows = subst (λ (o : Option CoreFault). ShowsWithExecutables g.D.Disk c.args.archive.now c.args.kind q c.args.image.now o told.0 c.answer_in_core.new.archive) c.in-Ok.ensures.fault told.1 in
    (told.0, shows, told.2, told.3)

pub returns-in-Err-clause-answers : goal.returns-in-Err-clause-answers
returns-in-Err-clause-answers g c = (
  no_reply (core_reason c.in-Err.fault),
  rw (sym c.in-Err.ensures.fault) (refl, refl),
  (core_reason c.in-Err.fault, refl),
  c.print_core_fault.ensures,
)

use Rattle.std.proofs.Common.{Ok, Err, refl, ap, ◌∙◌}
use Rattle.script_lines.specs.Queries.{memory_query}
use Rattle.script_streams.specs.Replies.{no_reply}
use Rattle.archive_replies.specs.Reasons.{reason_of}
use Rattle.case_queries.specs.Windows.{part_at, part_bytes}
use Rattle.case_queries.proofs.AskLemmas.{collected_if, held_if, kept_still}
use Rattle.case_queries.proofs.WindowLemmas.{seen_by}
use Rattle.case_queries.proofs.memory.answer_seen.Goals as goal

pub returns-in-Ok-clause-answers : goal.returns-in-Ok-clause-answers
returns-in-Ok-clause-answers g c =
    let seen = c.in-Ok.ensures.seen in
    let s = c.in-Ok.seen in
    let by = seen_by c.args.query.now s.kept.image.items c.deref.result.now s.size c.lent_window.result.size (part_at s.part) c.lent_window.result.at (part_bytes s.kept.image.items s.part) c.lent_window.result.bytes.now seen.0
    c.deref.ensures.value c.lent_window.ensures.size c.lent_window.ensures.at (c.lent_window.ensures.bytes ∙ ap (λ x. part_bytes x s.part) c.deref-in-Ok.ensures.value) seen.2 in
    let told = c.answer_memory-outcome.ensures.answers seen.0 by in
    (told.0, (Ok seen.0, c.see_memory.new.archive, seen.1, told.1), rw c.is_done.ensures told.2, told.3)

pub returns-in-Ok-clause-kept : goal.returns-in-Ok-clause-kept
returns-in-Ok-clause-kept g c =
    let seen = c.in-Ok.ensures.seen in
    let s = c.in-Ok.seen in
    let by = seen_by c.args.query.now s.kept.image.items c.deref.result.now s.size c.lent_window.result.size (part_at s.part) c.lent_window.result.at (part_bytes s.kept.image.items s.part) c.lent_window.result.bytes.now seen.0
    c.deref.ensures.value c.lent_window.ensures.size c.lent_window.ensures.at (c.lent_window.ensures.bytes ∙ ap (λ x. part_bytes x s.part) c.deref-in-Ok.ensures.value) seen.2 in
    let told = c.answer_memory-outcome.ensures.answers seen.0 by in
    held_if g.D.Disk c.answer_memory-outcome.new.archive c.kept_if.result _ c.kept_if.ensures
    (kept_still g.D.Disk c.see_memory.new.archive c.answer_memory-outcome.new.archive c.args.kind (memory_query c.args.query.now) seen.0 told.0 s.kept told.1 c.in-Ok.ensures.kept)

pub returns-in-Ok-clause-are_kept : goal.returns-in-Ok-clause-are_kept
returns-in-Ok-clause-are_kept g c =
    collected_if g.D.Disk c.answer_memory-outcome.new.archive c.kept_if.result _ c.kept_if.ensures c.answer_memory-outcome.ensures.kept

pub returns-in-Err-clause-answers : goal.returns-in-Err-clause-answers
returns-in-Err-clause-answers g c = (
  no_reply (reason_of c.in-Err.fault),
  (Err c.in-Err.fault, c.see_memory.new.archive, c.in-Err.ensures.seen, (refl, refl)),
  (reason_of c.in-Err.fault, refl),
  rw c.reason.ensures at c.print_no.ensures,
)

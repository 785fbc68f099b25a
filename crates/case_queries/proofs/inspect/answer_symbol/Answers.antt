use Rattle.std.proofs.Common.{Ok, Err, refl}
use Rattle.script_streams.specs.Replies.{no_reply}
use Rattle.archive_replies.specs.Reasons.{reason_of}
use Rattle.case_queries.proofs.AskLemmas.{held_if, collected_if}
use Rattle.case_queries.proofs.ShowLemmas.{symbol_shown, outcome_with}
use Rattle.case_queries.proofs.inspect.answer_symbol.Goals as goal

pub returns-in-Ok-clause-answers : goal.returns-in-Ok-clause-answers
returns-in-Ok-clause-answers g c =
    let told = rw c.deref.ensures.value at c.print_symbol-outcome.ensures in
    (told.0, (Ok c.in-Ok.seen.image.items, c.see_image.new.archive, c.in-Ok.ensures.seen, symbol_shown g.D.Disk c.see_image.new.archive c.args.kind c.in-Ok.seen.image.items c.args.address c.print_symbol-outcome.result told.0 told.1.0 told.1.1), rw c.is_done.ensures (outcome_with c.print_symbol-outcome.result _ told.0 told.1.0), told.2)

pub returns-in-Ok-clause-kept : goal.returns-in-Ok-clause-kept
returns-in-Ok-clause-kept g c = held_if g.D.Disk c.see_image.new.archive c.kept_if.result c.in-Ok.seen c.kept_if.ensures c.in-Ok.ensures.kept

pub returns-in-Ok-clause-are_kept : goal.returns-in-Ok-clause-are_kept
returns-in-Ok-clause-are_kept g c = collected_if g.D.Disk c.see_image.new.archive c.kept_if.result c.in-Ok.seen c.kept_if.ensures c.in-Ok.ensures.are_kept

pub returns-in-Err-clause-answers : goal.returns-in-Err-clause-answers
returns-in-Err-clause-answers g c = (
  no_reply (reason_of c.in-Err.fault),
  (Err c.in-Err.fault, c.see_image.new.archive, c.in-Err.ensures.seen, (refl, refl)),
  (reason_of c.in-Err.fault, refl),
  rw c.reason.ensures at c.print_no.ensures,
)

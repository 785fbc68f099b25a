use Rattle.std.proofs.Common.{Ok, Err, refl, ap, sym, subst, ◌∙◌}
use Rattle.elf_view.specs.declared.faults.Want.TheVariants.{Core}
use Rattle.archive_replies.specs.Reasons.{reason_of}
use Rattle.intake.specs.Parts.{state_of}
use Rattle.intake.specs.State.{ArchiveState}
use Rattle.script_lines.specs.Queries.{memory_query}
use Rattle.script_streams.specs.Replies.{no_reply}
use Rattle.case_queries.specs.Fronts.{HasSize, SeesEnough}
use Rattle.case_queries.specs.Steps.{Asks}
use Rattle.case_queries.proofs.AskLemmas.{collected_if, held_if}
use Rattle.case_queries.proofs.WindowLemmas.{sized, still_sized}
use Rattle.case_queries.proofs.find.answer_find.Goals as goal

pub returns-in-Ok-clause-answers : goal.returns-in-Ok-clause-answers
returns-in-Ok-clause-answers g c =
    let old = c.args.archive.now in
    let at = c.in-Ok.ensures.seq in
    let seen = subst (λ n. SeesEnough g.D.Disk old n Core (Ok c.in-Ok.front) c.see_front.new.archive) (sym at) c.in-Ok.ensures.seen in
    let told = c.find_seen-outcome.ensures.answers old seen in
    (told.0, subst (λ n. Asks g.D.Disk old n (memory_query c.args.query.now) (Ok c.args.kind) told.0 c.find_seen-outcome.new.archive) at told.1, rw c.is_done.ensures told.2, told.3)

pub returns-in-Ok-clause-kept : goal.returns-in-Ok-clause-kept
returns-in-Ok-clause-kept g c = held_if g.D.Disk c.find_seen-outcome.new.archive c.kept_if.result _ c.kept_if.ensures c.find_seen-outcome.ensures.kept

pub returns-in-Ok-clause-are_kept : goal.returns-in-Ok-clause-are_kept
returns-in-Ok-clause-are_kept g c = collected_if g.D.Disk c.find_seen-outcome.new.archive c.kept_if.result _ c.kept_if.ensures c.find_seen-outcome.ensures.are_kept

pub returns-in-Err-clause-answers : goal.returns-in-Err-clause-answers
returns-in-Err-clause-answers g c = (
  no_reply (reason_of c.in-Err.fault),
  (Err c.in-Err.fault, c.see_front.new.archive, c.in-Err.ensures.seen, (refl, refl)),
  (reason_of c.in-Err.fault, refl),
  rw c.reason.ensures at c.print_no.ensures,
)

pub find_seen-outcome-requires-clause-runs : goal.find_seen-outcome-requires-clause-runs
find_seen-outcome-requires-clause-runs g c = ap (λ (s : ArchiveState). s.stopped) c.in-Ok.ensures.seen.1.state ∙ c.requires.runs

pub find_seen-outcome-requires-clause-has : goal.find_seen-outcome-requires-clause-has
find_seen-outcome-requires-clause-has g c =
    let mid = c.see_front.new.archive in
    subst (λ n. HasSize (state_of mid) n c.args.size) (sym c.in-Ok.ensures.seq) (still_sized g.D.Disk c.args.archive.now mid c.args.seq c.args.size Core c.in-Ok.front c.requires.has c.in-Ok.ensures.seen)

pub find_seen-outcome-requires-clause-enough : goal.find_seen-outcome-requires-clause-enough
find_seen-outcome-requires-clause-enough g c =
    let seen = c.in-Ok.ensures.seen in
    (seen.0, seen.2, sized g.D.Disk c.args.archive.now c.see_front.new.archive c.args.seq c.args.size seen.0 c.requires.has seen.1)

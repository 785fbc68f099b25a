use Rattle.std.proofs.Common.{◌≡◌, [], ℕ, List, Result, Ok, Err, refl, sym, subst}
use Rattle.archive_files.specs.declared.failures.Refusal.{Refusal}
use Rattle.inspector_cli.specs.Asking.{line_streams}
use Rattle.inspector_cli.specs.Deleting.{AreLines, DeletesAlone, DeletesAsLines}
use Rattle.inspector_cli.specs.Life.{LifeEnds}
use Rattle.pruning.specs.declared.dropping.Pruning.{Pruning}
use Rattle.case_info.specs.Planning.{PlansOver}
use Rattle.case_info.proofs.prune.prune_over.Goals as goal

pub returns-in-Err : goal.returns-in-Err
returns-in-Err g c = (
  Err c.in-Err.refusal,
  c.plan_over-planned.result.1,
  subst (λ (p : Result Pruning Refusal). PlansOver g.D.Disk c.args.policy.now c.args.disk p c.plan_over-planned.result.1) c.in-Err.is c.plan_over-planned.ensures,
  (refl, refl, refl, refl),
)

pub returns : goal.returns
returns g c =
    let p = c.in-Ok.pruning in
    let mid = c.plan_over-planned.result.1 in
    let deleted = c.open_and_delete-deleted.result.0 in
    let after = c.open_and_delete-deleted.result.1 in
    let taken = g.O.Output.taken c.args.output.now in
    let more = g.O.Output.taken c.open_and_delete-deleted.new.output in
    let lost = g.O.Output.failures c.args.output.now in
    let losses = g.O.Output.failures c.open_and_delete-deleted.new.output in
    let numbers = c.deref.ensures.value in
    let ends = c.open_and_delete-deleted.ensures in (
      Ok p,
      mid,
      subst (λ (q : Result Pruning Refusal). PlansOver g.D.Disk c.args.policy.now c.args.disk q mid) c.in-Ok.is c.plan_over-planned.ensures,
      (
        deleted,
        subst (λ (ns : List ℕ). LifeEnds g.D.Disk 0 (line_streams [] deleted taken more lost losses) mid deleted after (DeletesAlone g.D.Disk ns p.unmet taken more)) numbers ends.outcome,
        λ naming line lines. subst (λ (ns : List ℕ). DeletesAsLines g.D.Disk naming line ns mid deleted after) numbers (ends.headline naming line (subst (AreLines line) (sym numbers) lines)),
        c.ask_told.ensures,
      ),
    )

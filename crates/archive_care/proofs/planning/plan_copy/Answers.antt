use Rattle.std.proofs.Common.{◌≡◌, ◌∙◌, ◌≤◌, List, None, length, map, refl, ap, sym, subst, arith}
use Rattle.journal_layout.specs.Case.{Case, case_of}
use Rattle.journal_layout.specs.Folding.{used_blocks}
use Rattle.journal_layout.specs.Live.{AreLive}
use Rattle.journal_snapshot.specs.Measuring.{IsMeasure}
use Rattle.journal_snapshot.specs.declared.change.Change.TheVariants.{Nothing}
use Rattle.archive_care.specs.Placing.{placed}
use Rattle.archive_care.proofs.PlaceLemmas.{live_placed}
use Rattle.archive_care.proofs.PlanLemmas.{live_whole, live_short, measured_over}
use Rattle.archive_care.proofs.planning.plan_copy.Goals as goal

pub placed-requires-clause-whole : goal.placed-requires-clause-whole
placed-requires-clause-whole c =
    let s = c.args.journal.now.standing in
    live_whole s.shape.data_blocks s.next c.entries.result.now (subst (λ (l : List Case). AreLive s.shape.data_blocks l s.next) (sym c.entries.ensures) c.requires.live)

pub measured-requires-clause-short : goal.measured-requires-clause-short
measured-requires-clause-short c =
    let s = c.args.journal.now.standing in
    let same : map case_of c.deref.result.now ≡ placed 0 s.cases = ap (map case_of) c.deref.ensures.value ∙ c.in_ok-entries.ensures.0 ∙ ap (placed 0) c.entries.ensures in
    let live = live_placed s.shape.data_blocks c.args.shape.data_blocks s.next s.cases c.requires.live (subst (λ (l : List Case). length (used_blocks l) ≤ c.args.shape.data_blocks) c.entries.ensures c.in_ok-entries.ensures.1) in
    live_short c.args.shape.data_blocks s.next c.deref.result.now (subst (λ (l : List Case). AreLive c.args.shape.data_blocks l s.next) (sym same) live)

pub returns-in_default-measured : goal.returns-in_default-measured
returns-in_default-measured c =
    let s = c.args.journal.now.standing in
    let same : map case_of c.deref.result.now ≡ placed 0 s.cases = ap (map case_of) c.deref.ensures.value ∙ c.in_ok-entries.ensures.0 ∙ ap (placed 0) c.entries.ensures in
    let none : IsMeasure c.half_length.result Nothing c.deref.result.now None = c.in_default-measured.ensures in (
      c.in-Ok.ensures.limits.0 refl,
      subst (λ (l : List Case). length (used_blocks l) ≤ c.args.shape.data_blocks) c.entries.ensures c.in_ok-entries.ensures.1,
      omega (arith, c.half_length.ensures, measured_over s c.deref.result.now c.half_length.result same none),
    )

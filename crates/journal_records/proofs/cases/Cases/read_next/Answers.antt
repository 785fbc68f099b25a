use Rattle.std.proofs.Common.{◌≤◌, ◌^◌, refl, sym, length, subst}
use Rattle.journal_layout.specs.Layout.{field}
use Rattle.journal_layout.specs.Checks.{first_failing, next_checks}
use Rattle.journal_layout.specs.Record.{Next}
use Rattle.journal_layout.specs.Folding.{after}
use Rattle.journal_records.specs.Kept.{said_by}
use Rattle.journal_records.specs.declared.cases.Cases.{Cases}
use Rattle.journal_records.proofs.FaultLemmas.{handed_on, states, checks_only}
use Rattle.journal_records.proofs.SaysLemmas.{next_says}
use Rattle.journal_records.proofs.cases.Cases.read_next.Goals as goal

pub returns-in_err-self : goal.returns-in_err-self
returns-in_err-self c =
    let old = c.args.self.now in
    let rest = c.args.rest.now in
    let fault = first_failing c.args.at (next_checks rest (said_by old)) in
    handed_on fault (after (Next (field rest 8 8)) (said_by old)) (length old.free) c.from_residual.result old c.in_err-self.field-0.0 c.from_residual.ensures.1
    (states fault c.in_err-self.field-0.0 (checks_only c.args.at (next_checks rest (said_by old))) (c.in_err-self.ensures.fault (said_by old)))

pub returns : goal.returns
returns c =
    let old = c.args.self.now in
    let rest = c.args.rest.now in
    let ok = c.in_ok-self in
    let new : Cases = record old { next = ok.field-0 } in
    let n = field rest 8 8 in (
      sym (ok.ensures.fault (said_by old)),
      next_says old new n c.requires.kept refl refl refl refl ok.ensures.value
          (subst (λ k. old.next ≤ k) ok.ensures.value ok.ensures.bounds.0) (subst (λ k. k ≤ 2 ^ 32) ok.ensures.value ok.ensures.bounds.1),
    )

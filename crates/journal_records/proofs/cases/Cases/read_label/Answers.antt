use Rattle.std.proofs.Common.{ℕ, List, refl, sym, ap, ◌∙◌, length, subst}
use Rattle.journal_layout.specs.Layout.{field}
use Rattle.journal_layout.specs.Checks.{label_fault}
use Rattle.journal_layout.specs.Record.{Label}
use Rattle.journal_layout.specs.Reading.{label_at}
use Rattle.journal_layout.specs.Folding.{after}
use Rattle.journal_records.specs.Kept.{said_by, Says}
use Rattle.journal_records.specs.Live.{with_text, changed_in}
use Rattle.journal_records.specs.declared.cases.Cases.{Cases}
use Rattle.journal_records.proofs.LiveLemmas.{numbered_up}
use Rattle.journal_records.proofs.FaultLemmas.{handed_on, states, label_only}
use Rattle.journal_records.proofs.SaysLemmas.{label_says}
use Rattle.journal_records.proofs.cases.Cases.read_label.Goals as goal

pub check_label-requires-clause-numbered : goal.check_label-requires-clause-numbered
check_label-requires-clause-numbered c = numbered_up 0 c.args.self.now.next 4294967296 c.args.self.now.live.entries c.requires.kept.bound c.requires.kept.numbered

pub returns-in_err-check_label : goal.returns-in_err-check_label
returns-in_err-check_label c =
    let old = c.args.self.now in
    let rest = c.args.rest.now in
    let fault = label_fault c.args.at rest (said_by old) in
    handed_on fault (after (Label (field rest 8 4) (label_at rest)) (said_by old)) (length old.free) c.from_residual.result old c.in_err-check_label.field-0.0 c.from_residual.ensures.1
    (states fault c.in_err-check_label.field-0.0 (label_only c.args.at rest (said_by old)) (c.in_err-check_label.ensures.fault (said_by old)))

pub returns : goal.returns
returns c =
    let old = c.args.self.now in
    let rest = c.args.rest.now in
    let label = c.label_at.result in
    let new : Cases = record old { live = c.set_label.new.self } in (
      sym (c.in_ok-check_label.ensures.fault (said_by old)),
      subst (λ (l : List ℕ). Says (after (Label (field rest 8 4) l) (said_by old)) (length old.free) new) c.label_at.ensures
          (label_says old new (field rest 8 4) label c.requires.kept refl (c.set_label.ensures.entries ∙ ap (λ s. changed_in s (with_text label) old.live.entries) c.u32_at.ensures) c.set_label.ensures.end refl refl refl),
    )

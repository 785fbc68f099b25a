use Rattle.std.proofs.Common.{refl, sym, ap, ◌∙◌, length, nat_eq, slice_index}
use Rattle.journal_layout.specs.Layout.{field}
use Rattle.journal_layout.specs.Checks.{pin_fault}
use Rattle.journal_layout.specs.Record.{Pin}
use Rattle.journal_layout.specs.Folding.{after}
use Rattle.journal_records.specs.Kept.{said_by}
use Rattle.journal_records.specs.Live.{with_flag, changed_in}
use Rattle.journal_records.specs.declared.cases.Cases.{Cases}
use Rattle.journal_records.proofs.LiveLemmas.{numbered_up}
use Rattle.journal_records.proofs.FaultLemmas.{handed_on, states, pin_only}
use Rattle.journal_records.proofs.SaysLemmas.{pin_says}
use Rattle.journal_records.proofs.cases.Cases.read_pin.Goals as goal

pub check_pin-requires-clause-numbered : goal.check_pin-requires-clause-numbered
check_pin-requires-clause-numbered c = numbered_up 0 c.args.self.now.next 4294967296 c.args.self.now.live.entries c.requires.kept.bound c.requires.kept.numbered

pub returns-in_err-check_pin : goal.returns-in_err-check_pin
returns-in_err-check_pin c =
    let old = c.args.self.now in
    let rest = c.args.rest.now in
    let fault = pin_fault c.args.at rest (said_by old) in
    handed_on fault (after (Pin (field rest 8 4) (nat_eq (slice_index rest 12) 1)) (said_by old)) (length old.free) c.from_residual.result old c.in_err-check_pin.field-0.0 c.from_residual.ensures.1
    (states fault c.in_err-check_pin.field-0.0 (pin_only c.args.at rest (said_by old)) (c.in_err-check_pin.ensures.fault (said_by old)))

pub returns : goal.returns
returns c =
    let old = c.args.self.now in
    let rest = c.args.rest.now in
    let flag = nat_eq (slice_index rest 12) 1 in
    let new : Cases = record old { live = c.set_pin.new.self } in (
      sym (c.in_ok-check_pin.ensures.fault (said_by old)),
      pin_says old new (field rest 8 4) flag c.requires.kept refl (c.set_pin.ensures.entries ∙ ap (λ s. changed_in s (with_flag flag) old.live.entries) c.u32_at.ensures) c.set_pin.ensures.end refl refl refl,
    )

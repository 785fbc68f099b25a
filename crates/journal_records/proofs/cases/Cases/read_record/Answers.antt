use Rattle.std.proofs.Common.{Option, length, sym, ap, ◌∙◌}
use Rattle.std.specs.Option.{option_or}
use Rattle.journal_layout.specs.declared.faults.OpenFault.{OpenFault}
use Rattle.journal_layout.specs.Checks.{first_failing, head_checks, body_fault, record_fault}
use Rattle.journal_records.specs.Kept.{said_by}
use Rattle.journal_records.proofs.FaultLemmas.{handed_record, states, prints_first, prints_second, checks_only}
use Rattle.journal_records.proofs.cases.Cases.read_record.Goals as goal

pub returns-in_err-kind : goal.returns-in_err-kind
unfolding record_fault
returns-in_err-kind c =
    let old = c.args.self.now in
    let rest = c.args.rest.now in
    let e = c.in_err-kind.field-0.0 in
    let head = first_failing c.args.at (head_checks old.version rest) in
    handed_record c.args.at rest old c.from_residual.result old e c.from_residual.ensures.1
    (prints_first head (body_fault (length old.free) c.args.at rest (said_by old)) e (states head e (checks_only c.args.at (head_checks old.version rest)) c.in_err-kind.ensures.fault))

pub returns-in_err-read_body : goal.returns-in_err-read_body
unfolding record_fault
returns-in_err-read_body c =
    let old = c.args.self.now in
    let rest = c.args.rest.now in
    let e = c.in_err-read_body.field-0.0 in
    let head = first_failing c.args.at (head_checks old.version rest) in
    handed_record c.args.at rest old c.from_residual-in_err-read_body.result c.read_body.new.self e c.from_residual-in_err-read_body.ensures.1
    (prints_second head (body_fault (length old.free) c.args.at rest (said_by old)) e (sym c.in_ok-kind.ensures.fault) c.in_err-read_body.ensures)

pub returns : goal.returns
unfolding record_fault
returns c =
    let old = c.args.self.now in
    let rest = c.args.rest.now in
    let body = body_fault (length old.free) c.args.at rest (said_by old) in (
      ap (λ (o : Option OpenFault). option_or o body) (sym c.in_ok-kind.ensures.fault) ∙ c.in_ok-read_body.ensures.0,
      c.in_ok-read_body.ensures.1,
      c.u32_at.ensures,
      c.in_ok-kind.ensures.head,
    )

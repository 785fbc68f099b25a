use Rattle.std.proofs.Common.{None, refl, sym, length}
use Rattle.journal_layout.specs.Checks.{drop_fault}
use Rattle.journal_layout.specs.Reading.{drop_seqs}
use Rattle.journal_layout.specs.Record.{Drop}
use Rattle.journal_layout.specs.Folding.{after}
use Rattle.journal_records.specs.Kept.{said_by}
use Rattle.journal_records.proofs.LiveLemmas.{numbered_up}
use Rattle.journal_records.proofs.FaultLemmas.{handed_on, states, drop_only, reads_as}
use Rattle.journal_records.proofs.cases.Cases.read_drop.Goals as goal

pub check_drop-requires-clause-numbered : goal.check_drop-requires-clause-numbered
check_drop-requires-clause-numbered c = numbered_up 0 c.args.self.now.next 4294967296 c.args.self.now.live.entries c.requires.kept.bound c.requires.kept.numbered

pub returns-in_err-check_drop : goal.returns-in_err-check_drop
returns-in_err-check_drop c =
    let old = c.args.self.now in
    let rest = c.args.rest.now in
    let fault = drop_fault c.args.at rest (said_by old) in
    handed_on fault (after (Drop (drop_seqs rest)) (said_by old)) (length old.free) c.from_residual.result old c.in_err-check_drop.field-0.0 c.from_residual.ensures.1
    (states fault c.in_err-check_drop.field-0.0 (drop_only c.args.at rest (said_by old)) (c.in_err-check_drop.ensures.fault (said_by old)))

pub returns : goal.returns
returns c =
    let old = c.args.self.now in
    let rest = c.args.rest.now in
    let said = after (Drop (drop_seqs rest)) (said_by old) in
    reads_as None (drop_fault c.args.at rest (said_by old)) said said (length old.free) c.drop_cases.result c.drop_cases.new.self (sym (c.in_ok-check_drop.ensures.fault (said_by old))) refl c.drop_cases.ensures

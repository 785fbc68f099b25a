use Rattle.std.proofs.Common.{◌++◌, length-append, arith}
use Rattle.journal_snapshot.specs.Writing.{written, written_label}
use Rattle.journal_snapshot.specs.WriteLaws.{writes_then, failed_first}
use Rattle.journal_snapshot.proofs.cases.write_case.Goals as goal

pub returns-in_err-at-clause-writes : goal.returns-in_err-at-clause-writes
returns-in_err-at-clause-writes g c =
    let first = written c.args.seq c.args.entry.now c.args.pinned in
    let second = written_label c.args.seq c.args.label.now.items in
    failed_first g.D.Disk c.args.disk.now c.write_store.new.disk c.args.at first (first ++ second)
    c.write_store.result c.from_residual.result c.in_err-at.field-0.0 c.in_err-at.was c.from_residual.ensures.0 c.write_store.ensures.writes
    (omega (arith, length-append first second))

pub returns-clause-writes : goal.returns-clause-writes
returns-clause-writes g c =
    let first = written c.args.seq c.args.entry.now c.args.pinned in
    let second = written_label c.args.seq c.args.label.now.items in
    writes_then g.D.Disk c.args.disk.now c.write_store.new.disk c.write_label.new.disk c.args.at c.in_ok-at.at first second c.write_label.result
    (rw c.in_ok-at.was at c.write_store.ensures.writes) c.write_label.ensures.writes

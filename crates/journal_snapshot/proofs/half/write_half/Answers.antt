use Rattle.std.proofs.Common.{◌+◌, ◌++◌, Ok}
use Rattle.journal_snapshot.specs.Writing.{written_entries, written_added}
use Rattle.journal_snapshot.specs.Halves.{half_bytes}
use Rattle.journal_snapshot.specs.WriteLaws.{writes_then, failed_first, failed_within}
use Rattle.journal_snapshot.proofs.HalfLemmas.{half_low, half_low-2, half_low-3}
use Rattle.journal_snapshot.proofs.half.write_half.Goals as goal

pub returns-in_err-at-clause-writes : goal.returns-in_err-at-clause-writes
returns-in_err-at-clause-writes g c =
    failed_first g.D.Disk c.args.disk.now c.write_bytes.new.disk (c.args.target.start + 1) c.header.result (half_bytes c.args.target c.args.change.now c.args.entries.now)
    c.write_bytes.result c.from_residual.result c.in_err-at.field-0.0 c.in_err-at.was c.from_residual.ensures.0 c.write_bytes.ensures.writes
    (half_low c.args.target c.args.change.now c.args.entries.now c.header.result c.header.ensures.bytes)

pub returns-in_err-at-2-clause-writes : goal.returns-in_err-at-2-clause-writes
returns-in_err-at-2-clause-writes g c =
    failed_within g.D.Disk c.args.disk.now c.write_bytes.new.disk c.write_entries.new.disk (c.args.target.start + 1) c.in_ok-at.at c.header.result (written_entries c.args.change.now c.args.entries.now)
    (half_bytes c.args.target c.args.change.now c.args.entries.now)
    c.write_entries.result c.from_residual-in_err-at-2.result c.in_err-at-2.field-0.0 c.in_err-at-2.was c.from_residual-in_err-at-2.ensures.0
    (rw c.in_ok-at.was at c.write_bytes.ensures.writes) c.write_entries.ensures.writes
    (half_low-2 c.args.target c.args.change.now c.args.entries.now c.header.result c.header.ensures.bytes)

pub returns-in_err-at-3-clause-writes : goal.returns-in_err-at-3-clause-writes
returns-in_err-at-3-clause-writes g c =
    let front = writes_then g.D.Disk c.args.disk.now c.write_bytes.new.disk c.write_entries.new.disk (c.args.target.start + 1) c.in_ok-at.at c.header.result (written_entries c.args.change.now c.args.entries.now) (Ok c.in_ok-at-2.at)
    (rw c.in_ok-at.was at c.write_bytes.ensures.writes) (rw c.in_ok-at-2.was at c.write_entries.ensures.writes) in
    failed_within g.D.Disk c.args.disk.now c.write_entries.new.disk c.write_added.new.disk (c.args.target.start + 1) c.in_ok-at-2.at (c.header.result ++ written_entries c.args.change.now c.args.entries.now) (written_added c.args.change.now)
    (half_bytes c.args.target c.args.change.now c.args.entries.now)
    c.write_added.result c.from_residual-in_err-at-3.result c.in_err-at-3.field-0.0 c.in_err-at-3.was c.from_residual-in_err-at-3.ensures.0
    front c.write_added.ensures.writes
    (half_low-3 c.args.target c.args.change.now c.args.entries.now c.header.result c.header.ensures.bytes)

pub returns-clause-writes : goal.returns-clause-writes
returns-clause-writes g c =
    let front = writes_then g.D.Disk c.args.disk.now c.write_bytes.new.disk c.write_entries.new.disk (c.args.target.start + 1) c.in_ok-at.at c.header.result (written_entries c.args.change.now c.args.entries.now) (Ok c.in_ok-at-2.at)
    (rw c.in_ok-at.was at c.write_bytes.ensures.writes) (rw c.in_ok-at-2.was at c.write_entries.ensures.writes) in
    let most = writes_then g.D.Disk c.args.disk.now c.write_entries.new.disk c.write_added.new.disk (c.args.target.start + 1) c.in_ok-at-2.at (c.header.result ++ written_entries c.args.change.now c.args.entries.now) (written_added c.args.change.now) (Ok c.in_ok-at-3.at)
    front (rw c.in_ok-at-3.was at c.write_added.ensures.writes) in
    let all = writes_then g.D.Disk c.args.disk.now c.write_added.new.disk c.write_bytes-2.new.disk (c.args.target.start + 1) c.in_ok-at-3.at
    ((c.header.result ++ written_entries c.args.change.now c.args.entries.now) ++ written_added c.args.change.now) c.next_record.result c.write_bytes-2.result most c.write_bytes-2.ensures.writes in
    rw (c.header.ensures.bytes, c.next_record.ensures.record) at all

use Rattle.std.proofs.Common.{◌∙◌, refl, take, arith, Ok}
use Rattle.journal_snapshot.specs.Writing.{written_entry, written_entries}
use Rattle.journal_snapshot.specs.WriteLaws.{writes_nothing, writes_then, writes_as, failed_within}
use Rattle.journal_snapshot.proofs.EntryLemmas.{written_more, written_within, written_low}
use Rattle.journal_snapshot.proofs.cases.write_entries.Goals as goal

pub loop-entry-init : goal.loop-entry-init
loop-entry-init g c = record {
  writes = writes_nothing g.D.Disk c.args.disk.now c.args.start (g.met.D.Disk.only_now c.args.disk.now);
  kept = omega arith;
  uncounted = refl;
}

pub write_entry-requires-clause-in_half : goal.write_entry-requires-clause-in_half
write_entry-requires-clause-in_half g c =
    let end = c.loop-entry.invariant.writes.end in
    let within = written_within c.args.change.now c.args.entries.now c.loop-entry.entry-index c.entry-item.result c.loop-entry-test.true c.entry-item.is in
    let size = c.loop-entry.invariant.writes.fills.size in
    let in_half = c.requires.in_half in
    omega arith

pub returns-in_err-at-clause-writes : goal.returns-in_err-at-clause-writes
returns-in_err-at-clause-writes g c =
    let es = c.args.entries.now in
    let ch = c.args.change.now in
    let i = c.loop-entry.entry-index in
    failed_within g.D.Disk c.args.disk.now c.loop-entry.disk c.write_entry.new.disk c.args.start c.loop-entry.at (written_entries ch (take i es)) (written_entry ch c.entry-item.result) (written_entries ch es)
    c.write_entry.result c.from_residual.result c.in_err-at.field-0.0 c.in_err-at.was c.from_residual.ensures.0 c.loop-entry.invariant.writes c.write_entry.ensures.writes
    (written_low ch es i c.entry-item.result c.loop-entry-test.true c.entry-item.is)

pub loop-entry-preserved : goal.loop-entry-preserved
loop-entry-preserved g c =
    let es = c.args.entries.now in
    let ch = c.args.change.now in
    let i = c.loop-entry.entry-index in
    let end = c.in_ok-at.ensures.writes in
    record {
      writes =
          writes_as g.D.Disk c.args.disk.now c.write_entry.new.disk c.args.start _ _ (Ok c.in_ok-at.at)
          (written_more ch es i c.entry-item.result c.loop-entry-test.true c.entry-item.is)
          (writes_then g.D.Disk c.args.disk.now c.loop-entry.disk c.write_entry.new.disk c.args.start c.loop-entry.at (written_entries ch (take i es)) (written_entry ch c.entry-item.result) (Ok c.in_ok-at.at)
          c.loop-entry.invariant.writes (rw c.in_ok-at.was at c.write_entry.ensures.writes));
      kept = omega (arith, c.write_entry.ensures.kept, c.loop-entry.invariant.kept);
      uncounted = c.in_ok-at.ensures.cause.ok ∙ c.loop-entry.invariant.uncounted;
    }

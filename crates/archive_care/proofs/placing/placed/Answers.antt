use Rattle.std.proofs.Common.{map, arith}
use Rattle.journal_layout.specs.Case.{case_of}
use Rattle.archive_care.proofs.PlaceLemmas.{placed_more, none_left}
use Rattle.archive_care.proofs.placing.placed.Goals as goal

pub returns-then-from-count : goal.returns-then-from-count
returns-then-from-count c =
    none_left c.args.entries.now c.loop-entry.entry-index c.entry-item.result c.loop-entry.start c.blocks_for-count.result c.args.data_blocks
    c.requires.whole c.loop-entry-test.true c.entry-item.is c.loop-entry.invariant.start c.blocks_for-count.ensures
    (omega (arith, c.if-from-count.true, c.from.ensures, c.loop-entry.invariant.room))

pub loop-entry-preserved : goal.loop-entry-preserved
loop-entry-preserved c =
    let so_far = c.loop-entry.invariant in
    let more =
    placed_more c.args.entries.now c.loop-entry.entry-index c.entry-item.result (map case_of c.loop-entry.placed.items) (map case_of c.add_placed.new.placed.items)
    c.loop-entry.start c.blocks_for-count.result c.requires.whole c.loop-entry-test.true c.entry-item.is so_far.cases so_far.start c.blocks_for-count.ensures c.in_ok-add_placed.ensures in
    record {
      cases = more.0;
      start = more.1;
      room = omega (arith, c.if-from-count.false, c.from.ensures, so_far.room);
    }

use Rattle.image_replies.specs.CoreWords.{core_bytes}
use Rattle.case_queries.specs.Collecting.{is_wanted}
use Rattle.case_queries.proofs.CollectLemmas.{picked_more}
use Rattle.case_queries.proofs.collect_executables.wanted_among.Goals as goal

pub loop-entry-preserved : goal.loop-entry-preserved
loop-entry-preserved c =
    let core = core_bytes c.args.core.now in
    picked_more (is_wanted core) c.args.entries.now c.loop-entry.entry-index c.entry-item.result _ _ c.loop-entry-test.true c.entry-item.is c.loop-entry.invariant
    (c.in_ok-add_wanted.ensures core c.in_ok-names.ensures)

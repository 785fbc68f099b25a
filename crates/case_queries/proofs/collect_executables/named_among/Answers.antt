use Rattle.build_replies.specs.NameWords.{names_in}
use Rattle.case_queries.specs.Collecting.{is_named_by}
use Rattle.case_queries.proofs.CollectLemmas.{picked_more}
use Rattle.case_queries.proofs.collect_executables.named_among.Goals as goal

pub loop-entry-preserved : goal.loop-entry-preserved
loop-entry-preserved c =
    picked_more (is_named_by (names_in c.args.names.now)) c.args.entries.now c.loop-entry.entry-index c.entry-item.result _ _ c.loop-entry-test.true c.entry-item.is c.loop-entry.invariant c.in_ok-add_named.ensures

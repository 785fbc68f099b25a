use Rattle.std.proofs.Common.{rules}
use Rattle.intake.proofs.KeptNameLemmas.{stays_next}
use Rattle.intake.proofs.names.is_name_kept.Goals as goal

pub loop-entry-preserved : goal.loop-entry-preserved
loop-entry-preserved c =
    let next = stays_next c.args.name.now.items c.args.seqs.now c.args.entries.now c.loop-entry.entry-index c.entry-item.result c.loop-entry-test.true c.entry-item.is in
    search rules

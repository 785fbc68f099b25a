use Rattle.std.proofs.Common.{◌∙◌}
use Rattle.journal_snapshot.proofs.SeqLemmas.{listed}
use Rattle.journal_snapshot.proofs.change.is_listed.Goals as goal

pub returns : goal.returns
returns c = c.is_ok.ensures.value ∙ listed c.args.seqs.now c.args.seq c.binary_search.result c.binary_search.ensures.position c.requires

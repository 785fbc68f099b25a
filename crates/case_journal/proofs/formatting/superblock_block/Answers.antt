use Rattle.std.proofs.Common.{refl}
use Rattle.case_journal.proofs.FormatLemmas.{block_is}
use Rattle.case_journal.proofs.formatting.superblock_block.Goals as goal

pub returns-clause-block : goal.returns-clause-block
returns-clause-block c = block_is c.args.shape 4096 _ _ _ refl c.superblock_bytes.ensures refl c.put_front.ensures

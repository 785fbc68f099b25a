use Rattle.case_journal.proofs.StandLemmas.{data_apart}
use Rattle.case_journal.proofs.laws.data_blocks_keep.Goals as goal

pub returns : goal.returns
returns c s at n b d stands same low = data_apart s at n b d stands same low

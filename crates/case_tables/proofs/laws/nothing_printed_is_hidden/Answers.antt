use Rattle.case_tables.proofs.HiddenLemmas.{nothing_hidden}
use Rattle.case_tables.proofs.laws.nothing_printed_is_hidden.Goals as goal

pub returns : goal.returns
returns c = nothing_hidden

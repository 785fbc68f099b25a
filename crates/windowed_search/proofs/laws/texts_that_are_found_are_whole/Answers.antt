use Rattle.windowed_search.proofs.Outcomes.{whole}
use Rattle.windowed_search.proofs.laws.texts_that_are_found_are_whole.Goals as goal

pub returns : goal.returns
returns c = whole

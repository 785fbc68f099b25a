use Rattle.windowed_search.proofs.Outcomes.{across}
use Rattle.windowed_search.proofs.laws.a_match_across_windows_is_found.Goals as goal

pub returns : goal.returns
returns c = across

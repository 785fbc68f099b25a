use Rattle.windowed_search.proofs.Outcomes.{told}
use Rattle.windowed_search.proofs.laws.a_plan_tells_the_values.Goals as goal

pub returns : goal.returns
returns c = told

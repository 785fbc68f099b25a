use Rattle.windowed_search.proofs.Windowing.{windows}
use Rattle.windowed_search.proofs.laws.windows_have_all_places.Goals as goal

pub returns : goal.returns
returns s needle xs ys a some = windows needle xs ys a some

use Rattle.windowed_search.proofs.Memory.{places_here}
use Rattle.windowed_search.proofs.laws.places_are_occurrences.Goals as goal

pub returns : goal.returns
returns s space needle xs a run = places_here space needle xs a run

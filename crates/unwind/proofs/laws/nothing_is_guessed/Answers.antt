use Rattle.unwind.proofs.Standing.{nothing_guessed}
use Rattle.unwind.proofs.laws.nothing_is_guessed.Goals as goal

pub returns : goal.returns
returns c = nothing_guessed

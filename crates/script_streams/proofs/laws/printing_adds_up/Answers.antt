use Rattle.script_streams.specs.PrintLaws.{prints_then, prints_nothing}
use Rattle.script_streams.proofs.laws.printing_adds_up.Goals as goal

pub returns : goal.returns
returns c = record { nothing = λ a. prints_nothing; then = λ a b c x y. prints_then }

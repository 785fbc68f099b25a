use Rattle.intake.proofs.LastingLemmas.{numbers_above}
use Rattle.intake.proofs.laws.the_next_number_is_above.Goals as goal

pub returns : goal.returns
returns c bytes x a = numbers_above bytes x a (c.live_cases_are_sound.ensures bytes a.standing a.stands)

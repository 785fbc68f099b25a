use Rattle.intake.proofs.LastingLemmas.{images_whole}
use Rattle.intake.proofs.laws.images_are_whole.Goals as goal

pub returns : goal.returns
returns c bytes x a = images_whole bytes x a (c.live_cases_are_sound.ensures bytes a.standing a.stands)

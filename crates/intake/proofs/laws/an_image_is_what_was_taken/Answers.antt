use Rattle.intake.proofs.AnswerLemmas.{image_answered}
use Rattle.intake.proofs.FactLemmas.{image_taken}
use Rattle.intake.proofs.laws.an_image_is_what_was_taken.Goals as goal

pub returns-clause-stored : goal.returns-clause-stored
returns-clause-stored g c = image_taken g.D.Disk

pub returns-clause-answered : goal.returns-clause-answered
returns-clause-answered g c = image_answered g.D.Disk g.met.D.Disk.counts_now g.met.D.Disk.only_now g.met.D.Disk.seen_may_stay c.live_cases_are_sound.ensures

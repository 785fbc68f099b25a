use Rattle.journal_layout.specs.LiveLaws.{stands_live}
use Rattle.journal_layout.proofs.laws.live_cases_are_sound.Goals as goal

pub returns : goal.returns
returns c = stands_live

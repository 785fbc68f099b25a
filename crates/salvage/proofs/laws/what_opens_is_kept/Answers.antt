use Rattle.salvage.specs.KeptLaws as laws
use Rattle.salvage.proofs.laws.what_opens_is_kept.Goals as goal

pub returns-clause-kept : goal.returns-clause-kept
returns-clause-kept c = laws.what_opens_is_kept

pub returns-clause-sound : goal.returns-clause-sound
returns-clause-sound c = laws.what_is_sound_is_copied

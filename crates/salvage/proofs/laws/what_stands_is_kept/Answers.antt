use Rattle.salvage.specs.KeptLaws as laws
use Rattle.salvage.proofs.laws.what_stands_is_kept.Goals as goal

pub returns : goal.returns
returns c = laws.what_stands_is_kept

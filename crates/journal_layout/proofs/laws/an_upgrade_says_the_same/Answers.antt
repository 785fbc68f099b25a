use Rattle.journal_layout.specs.UpgradeLaws.{an_upgrade_says_the_same}
use Rattle.journal_layout.proofs.laws.an_upgrade_says_the_same.Goals as goal

pub returns : goal.returns
returns c = an_upgrade_says_the_same

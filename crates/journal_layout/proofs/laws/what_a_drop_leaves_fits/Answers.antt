use Rattle.journal_layout.specs.FitLaws.{drops_fit}
use Rattle.journal_layout.proofs.laws.what_a_drop_leaves_fits.Goals as goal

pub returns : goal.returns
returns c = drops_fit

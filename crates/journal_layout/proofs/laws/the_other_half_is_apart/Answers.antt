use Rattle.journal_layout.specs.OtherHalfLaws.{the_other_half_is_apart, an_opened_half_stands}
use Rattle.journal_layout.proofs.laws.the_other_half_is_apart.Goals as goal

pub returns-clause-closed : goal.returns-clause-closed
returns-clause-closed c = the_other_half_is_apart

pub returns-clause-opened : goal.returns-clause-opened
returns-clause-opened c = an_opened_half_stands

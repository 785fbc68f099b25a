use Rattle.journal_layout.specs.ReadingLaws.{one_opening, stands_opens}
use Rattle.journal_layout.proofs.laws.an_opening_has_one_answer.Goals as goal

pub returns-clause-one : goal.returns-clause-one
returns-clause-one c = one_opening

pub returns-clause-stands : goal.returns-clause-stands
returns-clause-stands c = stands_opens

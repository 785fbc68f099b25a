use Rattle.case_queries.proofs.StoredLemmas.{answered, one}
use Rattle.case_queries.proofs.laws.answers_are_of_the_case.Goals as goal

pub returns-clause-answered : goal.returns-clause-answered
returns-clause-answered g c = answered g.D.Disk

pub returns-clause-one : goal.returns-clause-one
returns-clause-one g c = one g.D.Disk

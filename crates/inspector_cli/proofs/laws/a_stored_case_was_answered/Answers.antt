use Rattle.inspector_cli.proofs.CauseLemmas.{stored_answered, refused_answered}
use Rattle.inspector_cli.proofs.laws.a_stored_case_was_answered.Goals as goal

pub returns-clause-stored : goal.returns-clause-stored
returns-clause-stored g c = stored_answered g.D.Disk

pub returns-clause-refused : goal.returns-clause-refused
returns-clause-refused g c = refused_answered g.D.Disk

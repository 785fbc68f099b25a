use Rattle.inspector_cli.proofs.SettledLemmas.{sessions_after_settling, stores_after_settling}
use Rattle.inspector_cli.proofs.laws.a_settled_archive_is_safe.Goals as goal

pub returns-clause-sessions : goal.returns-clause-sessions
returns-clause-sessions g c = sessions_after_settling g.D.Disk

pub returns-clause-stores : goal.returns-clause-stores
returns-clause-stores g c = stores_after_settling g.D.Disk

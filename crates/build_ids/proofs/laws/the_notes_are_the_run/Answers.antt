use Rattle.build_ids.proofs.Grammar.{found, only}
use Rattle.build_ids.proofs.laws.the_notes_are_the_run.Goals as goal

pub returns-clause-found : goal.returns-clause-found
returns-clause-found c = found

pub returns-clause-only : goal.returns-clause-only
returns-clause-only c = only

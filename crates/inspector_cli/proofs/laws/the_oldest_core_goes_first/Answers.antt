use Rattle.inspector_cli.proofs.GoingLemmas.{first_goes, all_pinned, no_pinned}
use Rattle.inspector_cli.proofs.laws.the_oldest_core_goes_first.Goals as goal

pub returns-clause-first : goal.returns-clause-first
returns-clause-first c = first_goes

pub returns-clause-none : goal.returns-clause-none
returns-clause-none c = all_pinned

pub returns-clause-loose : goal.returns-clause-loose
returns-clause-loose c = no_pinned

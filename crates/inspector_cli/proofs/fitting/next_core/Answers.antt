use Rattle.inspector_cli.proofs.FitLemmas.{oldest_core}
use Rattle.inspector_cli.proofs.fitting.next_core.Goals as goal

pub returns-in-Oldest : goal.returns-in-Oldest
returns-in-Oldest c = rw c.in-Oldest.is (oldest_core (λ (e : _). e.now) c.args.cases.now c.first_core.result c.first_core.ensures)

pub returns-in-Fair : goal.returns-in-Fair
returns-in-Fair c = rw c.in-Fair.is c.fairest.ensures

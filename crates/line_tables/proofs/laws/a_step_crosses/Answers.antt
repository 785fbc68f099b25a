use Rattle.line_tables.proofs.Crossing.{step_crosses}
use Rattle.line_tables.proofs.FirstSteps.{first_step}
use Rattle.line_tables.proofs.laws.a_step_crosses.Goals as goal

pub returns-clause-some : goal.returns-clause-some
returns-clause-some c = step_crosses

pub returns-clause-first : goal.returns-clause-first
returns-clause-first c = first_step

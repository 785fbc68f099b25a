use Rattle.line_tables.proofs.Homes.{placed}
use Rattle.line_tables.proofs.Walking.{walk, walk_only}
use Rattle.line_tables.proofs.laws.the_units_are_the_walk.Goals as goal

pub returns-clause-walk : goal.returns-clause-walk
returns-clause-walk c = walk 0 0

pub returns-clause-only : goal.returns-clause-only
returns-clause-only c = walk_only 0 0

pub returns-clause-places : goal.returns-clause-places
returns-clause-places c = placed

use Rattle.line_tables.proofs.InfoOrders.{declared, first, attributed, attributed_only}
use Rattle.line_tables.proofs.info_laws.the_attributes_are_those_declared.Goals as goal

pub returns-clause-declared : goal.returns-clause-declared
returns-clause-declared c = declared

pub returns-clause-first : goal.returns-clause-first
returns-clause-first c = first

pub returns-clause-attributes : goal.returns-clause-attributes
returns-clause-attributes c = attributed

pub returns-clause-only : goal.returns-clause-only
returns-clause-only c = attributed_only

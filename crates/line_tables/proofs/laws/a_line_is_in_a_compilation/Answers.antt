use Rattle.line_tables.proofs.Homes.{line_table, line_within}
use Rattle.line_tables.proofs.laws.a_line_is_in_a_compilation.Goals as goal

pub returns-clause-table : goal.returns-clause-table
returns-clause-table c = line_table

pub returns-clause-path : goal.returns-clause-path
returns-clause-path c = line_within

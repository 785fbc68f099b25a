use Rattle.line_tables.proofs.Walking.{rows_alone, sequences_alone}
use Rattle.line_tables.proofs.laws.a_sequence_stands_alone.Goals as goal

pub returns-clause-rows : goal.returns-clause-rows
returns-clause-rows c = rows_alone

pub returns-clause-sequences : goal.returns-clause-sequences
returns-clause-sequences c = sequences_alone

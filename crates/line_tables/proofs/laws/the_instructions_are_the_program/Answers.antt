use Rattle.line_tables.proofs.Walking.{program, program_only}
use Rattle.line_tables.proofs.laws.the_instructions_are_the_program.Goals as goal

pub returns-clause-program : goal.returns-clause-program
returns-clause-program c = program

pub returns-clause-only : goal.returns-clause-only
returns-clause-only c = program_only

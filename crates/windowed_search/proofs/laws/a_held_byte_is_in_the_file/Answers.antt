use Rattle.windowed_search.proofs.HeldLemmas.{held_in_the_file, first_decides}
use Rattle.windowed_search.proofs.laws.a_held_byte_is_in_the_file.Goals as goal

pub returns-clause-held : goal.returns-clause-held
returns-clause-held c = held_in_the_file

pub returns-clause-first : goal.returns-clause-first
returns-clause-first c = first_decides

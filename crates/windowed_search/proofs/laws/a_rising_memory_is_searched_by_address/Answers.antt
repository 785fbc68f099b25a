use Rattle.windowed_search.proofs.RisingLemmas.{occurs_by_address, texts_by_address}
use Rattle.windowed_search.proofs.laws.a_rising_memory_is_searched_by_address.Goals as goal

pub returns-clause-occurrences : goal.returns-clause-occurrences
returns-clause-occurrences s space needle some rises = occurs_by_address space needle some rises

pub returns-clause-texts : goal.returns-clause-texts
returns-clause-texts s space least rises = texts_by_address space least rises

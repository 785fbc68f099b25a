use Rattle.std.proofs.Common.{refl}
use Rattle.windowed_search.proofs.MemorySearching.{at_first}
use Rattle.windowed_search.proofs.memory_search.MemorySearch.new.Goals as goal

pub returns-clause-searched : goal.returns-clause-searched
returns-clause-searched c space = at_first space _ refl c.new-2.ensures.items c.new.ensures.fed

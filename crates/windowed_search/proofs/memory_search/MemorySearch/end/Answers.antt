use Rattle.windowed_search.proofs.MemorySearching.{all_below}
use Rattle.windowed_search.proofs.memory_search.MemorySearch.end.Goals as goal

pub returns : goal.returns
returns c space so_far none = all_below space c.args.self so_far none

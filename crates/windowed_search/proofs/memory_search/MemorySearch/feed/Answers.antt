use Rattle.std.proofs.Common.{ap, refl}
use Rattle.windowed_search.proofs.MemorySearching.{more_values}
use Rattle.windowed_search.proofs.memory_search.MemorySearch.feed.Goals as goal

pub returns-in-Ok-clause-searched : goal.returns-in-Ok-clause-searched
returns-in-Ok-clause-searched c space so_far values =
    more_values space c.args.self.now _ c.args.values.now so_far (ap (λ n. n.now) c.in-Ok.ensures.needle) refl values c.in-Ok.ensures.fed c.in-Ok.ensures.found
